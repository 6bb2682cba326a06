use Rattle.std.proofs.Common.{◌≡◌, ◌++◌, map, drop, string_bytes}
use Rattle.std.specs.Prelude.{◌↔◌}
use Rattle.ptree_trees.specs.Indented.{AreLineTexts, indented_lines}
use Rattle.ptree.proofs.Trees.OutlineItems.{item_line}
use Rattle.ptree_trees.proofs.indented.indented_text.Given as goal

-- the lines so far and those that are left are all, and so are their texts
abbrev pub invariant-loop-entry : goal.invariant-loop-entry
invariant-loop-entry l =
    (string_bytes l.text ++ indented_lines l.form (map item_line (drop l.entry-index l.entry-items)) ≡ indented_lines l.form (map item_line l.entry-items))
    × (AreLineTexts l.form (map item_line (drop l.entry-index l.entry-items)) ↔ AreLineTexts l.form (map item_line l.entry-items))

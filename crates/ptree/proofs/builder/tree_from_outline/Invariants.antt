use Rattle.std.proofs.Common.{◌∷◌, length, map, drop}
use denote.Shadow.{shadow}
use denote.Text.{Utf8}
use Rattle.ptree.specs.Outline.{line}
use Rattle.ptree.specs.PartialTree.{IsPartial, partial_lines, text_line}
use Rattle.ptree.proofs.Trees.PartialSteps.{IsBuilding}
use Rattle.ptree.proofs.builder.tree_from_outline.Given as goal

abbrev pub invariant-loop-line : goal.invariant-loop-line
invariant-loop-line l =
    shadow (Utf8 l.text) × IsPartial l.tree × IsBuilding (line 0 l.fn.root ∷ map text_line l.fn.below) (partial_lines l.tree) (length l.tree.parents.items) l.text (map text_line (drop l.line-index l.fn.below))

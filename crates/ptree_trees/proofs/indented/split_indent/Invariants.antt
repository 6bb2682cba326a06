use Rattle.std.proofs.Common.{◌≡◌, ◌+◌, ◌++◌, ◌≤◌, length}
use denote.Text.{Utf8}
use denote.Shadow.{shadow}
use Rattle.ptree_trees.specs.Indented.{indent}
use Rattle.ptree_trees.proofs.indented.split_indent.Given as goal

-- the line is an indent of the level so far and the rest
abbrev pub invariant-loop-more : goal.invariant-loop-more
invariant-loop-more l =
    shadow (Utf8 l.rest) × (l.line ≡ indent l.unit l.level ++ l.rest) × (l.level + length l.rest ≤ length l.line)

abbrev pub decreases-loop-more : goal.decreases-loop-more
decreases-loop-more l = length l.rest

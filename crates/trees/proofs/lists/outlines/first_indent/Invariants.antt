use Rattle.std.proofs.Common.{◌≡◌, drop, map}
use Rattle.trees.specs.Outlining.{first_indent}
use Rattle.trees.proofs.lists.outlines.first_indent.Given as goal

-- the lines so far have no indent
abbrev pub invariant-loop-line : goal.invariant-loop-line
invariant-loop-line l = first_indent (map (λ x. x.now) (drop l.line-index l.lines)) ≡ first_indent (map (λ x. x.now) l.lines)

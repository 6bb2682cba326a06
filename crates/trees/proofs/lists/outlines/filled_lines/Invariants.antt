use Rattle.std.proofs.Common.{◌≡◌, map, filter}
use Rattle.trees.specs.Outlining.{is_filled}
use Rattle.trees.proofs.lists.outlines.filled_lines.Given as goal

-- those so far
abbrev pub invariant-loop-line : goal.invariant-loop-line
invariant-loop-line l = map (λ x. x.now) l.found.items ≡ filter is_filled (map (λ x. x.now) l.yielded)

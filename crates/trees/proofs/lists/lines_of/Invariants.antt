use Rattle.std.proofs.Common.{◌≡◌}
use Rattle.trees.proofs.lists.lines_of.Given as goal

-- those so far
abbrev pub invariant-loop-line : goal.invariant-loop-line
invariant-loop-line l = l.found.items ≡ l.yielded

use Rattle.std.proofs.Common.{◌≡◌}
use Rattle.trees.proofs.lists.parts_of.Given as goal

-- those so far
abbrev pub invariant-loop-part : goal.invariant-loop-part
invariant-loop-part l = l.found.items ≡ l.yielded

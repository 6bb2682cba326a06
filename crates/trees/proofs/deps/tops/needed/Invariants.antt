use Rattle.std.proofs.Common.{◌≡◌, length}
use Rattle.trees.proofs.deps.tops.needed.Given as goal

-- a mark for each node
abbrev pub invariant-loop-to : goal.invariant-loop-to
invariant-loop-to l = length l.needed.items ≡ length l.network.labels.items

use Rattle.trees.proofs.Pairs.{AreFound}
use Rattle.trees.proofs.deps.pairs.line_pairs.Given as goal

-- the pairs on the lines so far
abbrev pub invariant-loop-i : goal.invariant-loop-i
invariant-loop-i l = AreFound l.found.items l.yielded

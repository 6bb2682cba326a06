use Rattle.trees.proofs.Reached.{Reaching}
use Rattle.trees.proofs.deps.tops.reach.Given as goal

-- what is reached so far is marked, and what it needs is too, or left
abbrev pub invariant-loop : goal.invariant-loop
invariant-loop l = Reaching l.network.sorted.keys l.from l.fn.reached l.reached l.left.items l.counter

use Rattle.std.proofs.Common.{◌≡◌, map, take}
use Rattle.trees.specs.Depending.{ends, needs_between}
use Rattle.trees.specs.DependingParts.{texts_of}
use Rattle.trees.proofs.deps.pairs.needs.Given as goal

-- what is needed by the pairs so far
abbrev pub invariant-loop-first : goal.invariant-loop-first
invariant-loop-first l = map ends l.needs.items ≡ needs_between (map (λ n. n.now) l.names) (map texts_of (take l.first-index l.pairs))

use Rattle.std.proofs.Common.{◌≡◌, map, take, string_bytes}
use Rattle.trees.proofs.deps.pairs.labels.Given as goal

-- the labels so far
abbrev pub invariant-loop-name : goal.invariant-loop-name
invariant-loop-name l = map string_bytes l.labels.items ≡ map (λ n. n.now) (take l.name-index l.names)

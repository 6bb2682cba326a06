use Rattle.std.proofs.Common.{◌≡◌, [], ◌∷◌, take, flat_map}
use Rattle.trees.proofs.deps.pairs.names.Given as goal

-- the words of the pairs so far
abbrev pub invariant-loop-first : goal.invariant-loop-first
invariant-loop-first l = l.names.items ≡ flat_map (λ p. p.0 ∷ p.1 ∷ []) (take l.first-index l.pairs)

use Rattle.trees.proofs.Common.{All, take, config_of}
use Rattle.trees.specs.Named.{IsReadWith}
use Rattle.trees.proofs.pieces.first_reading.Given as goal

-- the text is read with none of the pieces so far
abbrev pub invariant-loop-pieces : goal.invariant-loop-pieces
invariant-loop-pieces l = All (λ p. IsReadWith (config_of l.config) l.text p → ⊥) (take l.pieces-index l.all)

use Rattle.std.proofs.Common.{◌≢◌, All, take}
use Rattle.trees.specs.Named.{piece_name}
use Rattle.trees.proofs.pieces.first_named.Given as goal

-- none of the pieces so far has the name
abbrev pub invariant-loop-pieces : goal.invariant-loop-pieces
invariant-loop-pieces l = All (λ p. l.name ≢ piece_name p) (take l.pieces-index l.all)

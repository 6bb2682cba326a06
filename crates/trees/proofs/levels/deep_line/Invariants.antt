use Rattle.std.specs.List.{All}
use Rattle.trees.specs.ListingParts.{IsDeep}
use Rattle.trees.proofs.levels.deep_line.Given as goal

-- the lines so far are not deep
abbrev pub invariant-loop-line : goal.invariant-loop-line
invariant-loop-line l = All (λ x. IsDeep 5000 l.unit x.now → ⊥) l.yielded

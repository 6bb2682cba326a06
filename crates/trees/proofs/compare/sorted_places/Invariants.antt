use Rattle.std.proofs.Common.{◌≡◌, All, Some}
use Rattle.trees.specs.MergingParts.{text_at, HasPlaces}
use Rattle.trees.proofs.compare.sorted_places.Given as goal

-- each text so far is that of the item at its position, and none of those is missing
abbrev pub invariant-loop-i : goal.invariant-loop-i
invariant-loop-i l = record {
  there : All (λ p. text_at l.items p.1 ≡ Some p.0.now) l.places.items;
  all : HasPlaces l.items l.i l.places.items;
}

use Rattle.trees.proofs.Common.{◌≡◌, length, names}
use denote.Text.{Utf8}
use denote.Shadow.{shadow}
use Rattle.trees.specs.Listing.{from_first}
use Rattle.trees.proofs.lists.without_start.Given as goal

-- the rest has the names that count
abbrev pub invariant-loop-more : goal.invariant-loop-more
invariant-loop-more l = shadow (Utf8 l.rest) × (from_first (names 47 l.rest) ≡ from_first (names 47 l.path))

abbrev pub decreases-loop-more : goal.decreases-loop-more
decreases-loop-more l = length l.rest

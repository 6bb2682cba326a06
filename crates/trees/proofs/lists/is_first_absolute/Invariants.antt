use Rattle.std.proofs.Common.{◌≡◌, drop, map}
use Rattle.trees.specs.ListingParts.{is_first_absolute}
use Rattle.trees.proofs.lists.is_first_absolute.Given as goal

-- the paths so far are empty
abbrev pub invariant-loop-line : goal.invariant-loop-line
invariant-loop-line l = is_first_absolute (map (λ x. x.now) (drop l.line-index l.lines)) ≡ is_first_absolute (map (λ x. x.now) l.lines)

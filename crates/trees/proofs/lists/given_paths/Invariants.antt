use Rattle.trees.proofs.Common.{◌≡◌, map, take, names_of}
use Rattle.trees.specs.Listing.{given_paths}
use Rattle.trees.proofs.lists.given_paths.Given as goal

-- the names of the lines so far
abbrev pub invariant-loop-line : goal.invariant-loop-line
invariant-loop-line l = names_of 47 l.given.items ≡ given_paths (map (λ x. x.now) (take l.line-index l.lines))

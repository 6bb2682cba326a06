-- Beginnings that first names share.
use Rattle.std.specs.List.{AllByRecursion}
use Rattle.std.specs.Borrow.{Bor}
use Rattle.std.specs.Prelude.{◌≡◌, ◌≢◌, ℕ, drop, All, List, [], ◌∷◌, ◌++◌, length, map}
use Rattle.ptree_trees.specs.Paths.{names}
use Rattle.ptree_trees.specs.PathGroups.{PathGroup}

-- each of these paths begins with this text, in which there is no separator
pub record AllStart (separator : ℕ) (start : List ℕ) (paths : List (Bor (List ℕ))) : Type 0 where
  pub within : All (λ b. b ≢ separator) start
  pub each : AllByRecursion (λ p. p.now ≡ start ++ drop (length start) p.now) paths

-- the names of what follows it in the paths
abbrev pub names_behind : ℕ → List ℕ → List (Bor (List ℕ)) → List (List (List ℕ))
names_behind separator start paths = map (λ p. names separator (drop (length start) p.now)) paths

-- the names of a path, the first with this text before it
abbrev pub with_start : List ℕ → List (List ℕ) → List (List ℕ)
with_start start [] = []
with_start start (n ∷ ns) = (start ++ n) ∷ ns

-- a group, its name with this text before it
abbrev pub started : List ℕ → PathGroup → PathGroup
started start g = record { name = start ++ g.name; first = g.first; tails = g.tails }

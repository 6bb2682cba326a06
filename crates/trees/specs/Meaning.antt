-- Which graph a source means: its lines are pairs of words, or it is a lock file, of which some network is drawn.
use Rattle.std.specs.Borrow.{Bor}
use Rattle.std.specs.Prelude.{◌≡◌, ◌≢◌, ℕ, Bool, All, List, [], length, Option}
use Rattle.trees.specs.declared.deps.Dependencies.{Dependencies}
use Rattle.trees.specs.declared.source.Source.{Source}
use Rattle.trees.specs.Depending.{needs_between, edges_of_needs, AreNames, HoldsNone, HoldsPairs, IsGraphIn, IsLockFile, IsNoName, IsPairFile, IsWithin}

-- ## Sources

-- a source is understood: it is read as lines of two words, and holds some pairs; or it is read as a lock file
pub data IsUnderstood (source : Source) : Type 0 where
  as_pairs : (pairs : List (List ℕ × List ℕ)) → IsPairFile source → HoldsPairs source pairs → pairs ≢ [] → IsUnderstood source
  as_lock : IsLockFile source → IsUnderstood source

-- they are those of pairs
pub record MeansPairs (pairs : List (List ℕ × List ℕ)) (paths names : List (List ℕ)) (needs : List (ℕ × ℕ)) : Type 0 where
  pub are : AreNames pairs names
  pub pathless : paths ≡ []
  pub needed : needs ≡ needs_between names pairs

-- they are those that a source means: of a lock file they are packages, and what these need is among them
abbrev pub Means : (source : Source) → IsUnderstood source → List (List ℕ) → List (List ℕ) → List (ℕ × ℕ) → Type 0
Means source (as_pairs pairs file held some) paths names needs = MeansPairs pairs paths names needs
Means source (as_lock file) paths names needs = All (IsWithin (length names)) needs

-- ## Graphs

-- d is the graph that a source means, from the root that is asked for on
pub record IsGraphOf (source : Source) (root : Option (Bor (List ℕ))) (is_inverse is_terminal : Bool) (d : Dependencies) : Type 0 where
  pub understood : IsUnderstood source
  pub paths : List (List ℕ)
  pub names : List (List ℕ)
  pub needs : List (ℕ × ℕ)
  pub means : Means source understood paths names needs
  pub drawn : IsGraphIn source root is_terminal paths names (edges_of_needs is_inverse needs) d

-- a source that is read as lines of two words holds none
abbrev pub HoldsNoPairs : Source → Type 0
HoldsNoPairs source = IsPairFile source → HoldsNone source

-- a source that is read as lines of two words holds none, or the name that is asked for means none of its words
abbrev pub HoldsNoGraph : Source → Option (Bor (List ℕ)) → Type 0
HoldsNoGraph source root =
    (pairs : List (List ℕ × List ℕ)) → IsPairFile source → HoldsPairs source pairs → pairs ≢ []
    → (names : List (List ℕ)) × AreNames pairs names × IsNoName root [] names

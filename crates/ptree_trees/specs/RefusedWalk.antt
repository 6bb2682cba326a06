-- What a walk finds that looks for the first path to a value of a kind.
use Rattle.std.specs.Prelude.{◌≡◌, ℕ, ◌+◌, ◌⊎◌, List, [], ◌∷◌, map, reverse, Option, Vec, String, string_bytes}
use Rattle.std.specs.declared.alloc.Global.{Global}
use Rattle.ptree_trees.specs.declared.documents.refused.Step.{Step}
use Rattle.ptree_trees.specs.RefusedPath.{StepValue, at_key, at_position, Path, step_of, LeadsTo, IsFirstOf}

-- the path of steps that were found from its end
abbrev pub path_found : Vec Step Global → Path
path_found steps = map step_of (reverse steps.items)

-- the elements of a list with the steps to them, from a position on
abbrev pub element_rows : {D : Type 0} → ℕ → List D → List (StepValue × D)
element_rows {D} n [] = []
element_rows {D} n (d ∷ ds) = (at_position n, d) ∷ element_rows (n + 1) ds

-- the values at keys with the steps to them
abbrev pub member_rows : {V D : Type 0} → (V → D) → List (String Global × V) → List (StepValue × D)
member_rows {V} {D} meant [] = []
member_rows {V} {D} meant (m ∷ ms) = (at_key (string_bytes m.0), meant m.1) ∷ member_rows meant ms

-- a step leads to a value by one of the rows
abbrev pub HasRow : {D : Type 0} → List (StepValue × D) → StepValue → D → Type 0
HasRow {D} [] s d = ⊥
HasRow {D} (r ∷ rs) s d = ((s ≡ r.0) × (d ≡ r.1)) ⊎ HasRow rs s d

-- a path leads through one of the rows to a value of a kind
abbrev pub LeadsThrough : {D : Type 0} → (StepValue → D → Option D) → (D → Type 0) → List (StepValue × D) → Path → Type 0
LeadsThrough {D} at_step IsOfKind rows [] = ⊥
LeadsThrough {D} at_step IsOfKind rows (s ∷ p) = (c : D) × HasRow rows s c × LeadsTo at_step IsOfKind c p

-- the first path through rows to a value of a kind, or none
abbrev pub IsFirstIn : {D : Type 0} → (StepValue → D → Option D) → (D → Type 0) → List (StepValue × D) → Option Path → Type 0
IsFirstIn {D} at_step IsOfKind rows path = IsFirstOf (LeadsThrough at_step IsOfKind rows) path

-- Paths in documents, and the first one to a float or a date.
use Rattle.std.specs.Prelude.{◌≡◌, ⊤, ℕ, ◌<◌, ◌⊎◌, List, [], ◌∷◌, map, Option, Some, None, Vec, string_bytes}
use Rattle.std.specs.Cmp.Lexicographic.{slice_cmp}
use Rattle.std.specs.Ordering.{nat_cmp}
use Rattle.std.specs.declared.cmp.Ordering.TheVariants.{Less}
use Rattle.std.specs.declared.alloc.Global.{Global}
use Rattle.serde_json.specs.Data as j
use Rattle.serde_json.specs.Find as json_find
use Rattle.serde_json.specs.Read.{read}
use Rattle.toml.specs.Data as t
use Rattle.toml.specs.Parse.{parse_document}
use Rattle.ptree.specs.declared.value.document.DocFormat.{DocFormat}
use Rattle.ptree.specs.declared.value.document.DocFormat.TheVariants.{Toml, Json}
use Rattle.ptree_trees.specs.declared.documents.refused.Step.{Step}
use Rattle.ptree_trees.specs.declared.documents.refused.Step.TheVariants.{Key, Position}

-- a step into a value: to the value at a key, or to the element at a position, counted from 0
pub data StepValue : Type 0 where
  at_key : List ℕ → StepValue
  at_position : ℕ → StepValue

-- a step, with its key by its bytes
abbrev pub step_of : Step → StepValue
step_of (Key key) = at_key (string_bytes key)
step_of (Position n) = at_position n

-- the steps from the top of a document, in order
abbrev pub Path : Type 0
Path = List StepValue

-- the path of a list of steps
abbrev pub path_of : Vec Step Global → Path
path_of steps = map step_of steps.items

-- one step comes before another: to a lesser position, or to a key that is less by its bytes
abbrev pub IsStepBefore : StepValue → StepValue → Type 0
IsStepBefore (at_key k) (at_key l) = slice_cmp nat_cmp k l ≡ Less
IsStepBefore (at_position m) (at_position n) = m < n
IsStepBefore _ _ = ⊥

-- one path comes before another: where they part, its step does
abbrev pub IsPathBefore : Path → Path → Type 0
IsPathBefore (s ∷ p) (t ∷ q) = IsStepBefore s t ⊎ ((s ≡ t) × IsPathBefore p q)
IsPathBefore _ _ = ⊥

-- a path leads from a value to one of a kind, where this is what stands at a step
abbrev pub LeadsTo : {D : Type 0} → (StepValue → D → Option D) → (D → Type 0) → D → Path → Type 0
LeadsTo {D} at_step IsOfKind d [] = IsOfKind d
LeadsTo {D} at_step IsOfKind d (s ∷ p) = (c : D) × (at_step s d ≡ Some c) × LeadsTo at_step IsOfKind c p

-- a path is the first of some, or there is none of them
abbrev pub IsFirstOf : (Path → Type 0) → Option Path → Type 0
IsFirstOf IsOne None = (q : Path) → ¬ (IsOne q)
IsFirstOf IsOne (Some p) = IsOne p × ((q : Path) → IsOne q → (q ≡ p) ⊎ IsPathBefore p q)

-- what stands at a step into a JSON value
abbrev pub json_at_step : StepValue → j.Data → Option j.Data
json_at_step (at_key k) d = json_find.get k d
json_at_step (at_position n) d = json_find.at n d

-- a JSON value is a float
abbrev pub IsFloat : j.Data → Type 0
IsFloat (j.number (j.float x)) = ⊤
IsFloat _ = ⊥

-- the first path to a float in a JSON value, or none
abbrev pub IsFirstFloat : j.Data → Option Path → Type 0
IsFirstFloat d path = IsFirstOf (LeadsTo json_at_step IsFloat d) path

-- what stands at a step into a TOML value
abbrev pub toml_at_step : StepValue → t.Data → Option t.Data
toml_at_step (at_key k) d = t.get k d
toml_at_step (at_position n) d = t.at n d

-- a TOML value is a float, a date or a time
abbrev pub IsFloatOrDate : t.Data → Type 0
IsFloatOrDate (t.float x) = ⊤
IsFloatOrDate (t.datetime d) = ⊤
IsFloatOrDate _ = ⊥

-- the first path to a float, a date or a time in a TOML value, or none
abbrev pub IsFirstFloatOrDate : t.Data → Option Path → Type 0
IsFirstFloatOrDate d path = IsFirstOf (LeadsTo toml_at_step IsFloatOrDate d) path

-- a path in what a text was read as: none if it was not read
abbrev pub IsPathIn : {D : Type 0} → (D → Option Path → Type 0) → Option D → Option Path → Type 0
IsPathIn {D} IsOne None path = path ≡ None
IsPathIn {D} IsOne (Some d) path = IsOne d path

-- the path to what a text's document is refused for: none if it is not, or if the text is no document
abbrev pub IsRefusedPath : DocFormat → List ℕ → Option Path → Type 0
IsRefusedPath Json text path = IsPathIn IsFirstFloat (read text) path
IsRefusedPath Toml text path = IsPathIn (λ ms. IsFirstFloatOrDate (t.table ms)) (parse_document text) path

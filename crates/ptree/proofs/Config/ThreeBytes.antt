-- A list of another length than three is no colour of three bytes.
use Rattle.std.proofs.Common.{◌≡◌, List, [], ◌∷◌, length, None, refl, arith}
use Rattle.ptree.specs.File.{json_rgb, toml_rgb}
use Rattle.serde_json.specs.View as j
use Rattle.serde_json.specs.declared.value.Value as jv
use Rattle.toml.specs.View as t
use Rattle.toml.specs.declared.value.Value as tv

-- a list of another length is no colour of three bytes, in JSON
pub no_json_rgb : (vs : List jv.Value) → (length vs ≡ 3 → ⊥) → None ≡ json_rgb (j.items_view vs)
no_json_rgb [] h = refl
no_json_rgb (a ∷ []) h = refl
no_json_rgb (a ∷ b ∷ []) h = refl
no_json_rgb (a ∷ b ∷ c ∷ []) h = absurd (h (omega arith))
no_json_rgb (a ∷ b ∷ c ∷ d ∷ vs) h = refl

-- a list of another length is no colour of three bytes, in TOML
pub no_toml_rgb : (vs : List tv.Value) → (length vs ≡ 3 → ⊥) → None ≡ toml_rgb (t.items_view vs)
no_toml_rgb [] h = refl
no_toml_rgb (a ∷ []) h = refl
no_toml_rgb (a ∷ b ∷ []) h = refl
no_toml_rgb (a ∷ b ∷ c ∷ []) h = absurd (h (omega arith))
no_toml_rgb (a ∷ b ∷ c ∷ d ∷ vs) h = refl

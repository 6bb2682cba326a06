-- The last variable of a name, from the end.
use Rattle.std.proofs.Common.{◌≡◌, ◌∙◌, Bool, true, false, List, [], ◌∷◌, ◌++◌, Some, None, option_map, cond, reverse, String, Global, string_bytes, ℕ, length, refl, ap, arith}
use Rattle.std.specs.Prelude.{find}
use Rattle.std.proofs.lemmas.List.{map-append, reverse-append}
use Rattle.ptree.specs.declared.print_config.parse.Spelling.{Spelling}
use Rattle.ptree.specs.Characters.{is_spelled}
use Rattle.ptree.specs.Sources.{Variables, variables_of, last_value}

-- the last value, with one variable more
last_value-push : (spelling : Spelling) (name : List ℕ) (vs : Variables) (v : List ℕ × List ℕ)
    → last_value spelling name (vs ++ v ∷ []) ≡ cond (is_spelled spelling v.0 name) (Some v.1) (last_value spelling name vs)
unfolding last_value
last_value-push spelling name vs v = rw (reverse-append vs (v ∷ [])) (at_end (is_spelled spelling v.0 name)) where
  at_end : (b : Bool) → option_map (λ w. w.1) (cond b (Some v) (find (λ w. is_spelled spelling w.0 name) (reverse vs))) ≡ cond b (Some v.1) (last_value spelling name vs)
  at_end true = refl
  at_end false = refl

-- the same for variables as the code holds them
pushed : (spelling : Spelling) (name : List ℕ) (all left : List (String Global × String Global)) (v : String Global × String Global) → all ≡ left ++ v ∷ []
    → last_value spelling name (variables_of all) ≡ cond (is_spelled spelling (string_bytes v.0) name) (Some (string_bytes v.1)) (last_value spelling name (variables_of left))
pushed spelling name all left v e =
    ap (λ vs. last_value spelling name (variables_of vs)) e
    ∙ (ap (last_value spelling name) (map-append (λ w. (string_bytes w.0, string_bytes w.1)) left (v ∷ []))
    ∙ last_value-push spelling name (variables_of left) (string_bytes v.0, string_bytes v.1))

-- the last of some variables has the name
pub last_value-here : (spelling : Spelling) (name : List ℕ) (all left : List (String Global × String Global)) (v : String Global × String Global) → all ≡ left ++ v ∷ []
    → is_spelled spelling (string_bytes v.0) name ≡ true → last_value spelling name (variables_of all) ≡ Some (string_bytes v.1)
last_value-here spelling name all left v e is = pushed spelling name all left v e ∙ ap (λ b. cond b (Some (string_bytes v.1)) (last_value spelling name (variables_of left))) is

-- the last of some variables has another name
pub last_value-before : (spelling : Spelling) (name : List ℕ) (all left : List (String Global × String Global)) (v : String Global × String Global) → all ≡ left ++ v ∷ []
    → is_spelled spelling (string_bytes v.0) name ≡ false → last_value spelling name (variables_of all) ≡ last_value spelling name (variables_of left)
last_value-before spelling name all left v e other = pushed spelling name all left v e ∙ ap (λ b. cond b (Some (string_bytes v.1)) (last_value spelling name (variables_of left))) other

-- there are no variables
pub last_value-none : (spelling : Spelling) (name : List ℕ) (all : List (String Global × String Global)) → length all ≡ 0 → last_value spelling name (variables_of all) ≡ None
unfolding last_value
last_value-none spelling name [] e = refl
last_value-none spelling name (v ∷ vs) e = absurd (omega arith)

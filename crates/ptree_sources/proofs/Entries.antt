-- What an entry of the environment means.
use Rattle.std.proofs.Common.{◌≡◌, ℕ, ◌<◌, ◌++◌, List, [], ◌∷◌, map, length, sym, ap, ◌∙◌, arith}
use Rattle.std.specs.Prelude.{String, string_bytes}
use Rattle.std.specs.Str.{IsUtf8}
use Rattle.std.specs.List.{before_first, after_first, position_or_len}
use Rattle.std.specs.declared.alloc.Global.{Global}
use Rattle.std.proofs.lemmas.Str.{IsUtf8-from_is_utf8, is_utf8-from_IsUtf8}
use Rattle.std.proofs.lemmas.Bool.{lt-ltb}
use Rattle.std.proofs.lemmas.List.{append-nil, map-append}
use Rattle.ptree_sources.specs.Environment.{is_equals, variable_of, variable_in}

-- an entry that is not UTF-8 has no variable
pub not_text : (entry : List ℕ) (xs : List (List ℕ × List ℕ)) → (IsUtf8 entry → ⊥) → xs ≡ xs ++ variable_in entry
not_text entry xs n = grind (arith, append-nil xs, IsUtf8-from_is_utf8 entry, n)

-- an entry that is UTF-8 and has a `=` has a variable
pub text_variable : (entry text : List ℕ) → IsUtf8 entry → text ≡ entry → position_or_len is_equals text < length text → variable_in entry ≡ (before_first is_equals text, after_first is_equals text) ∷ []
text_variable entry text utf8 same within = rw (is_utf8-from_IsUtf8 entry utf8, ← same, lt-ltb (position_or_len is_equals text) (length text) within)

-- the variable is added
pub pushed : (found new : List (String Global × String Global)) (v : String Global × String Global) (entry text : List ℕ)
    → new ≡ found ++ v ∷ [] → IsUtf8 entry → text ≡ entry → position_or_len is_equals text < length text
    → string_bytes v.0 ≡ before_first is_equals text → string_bytes v.1 ≡ after_first is_equals text
    → map variable_of new ≡ map variable_of found ++ variable_in entry
pushed found new v entry text n utf8 same within name value =
    ap (map variable_of) n ∙ map-append variable_of found (v ∷ [])
    ∙ ap (λ w. map variable_of found ++ w ∷ []) (ap (λ a. (a, string_bytes v.1)) name ∙ ap (λ b. (before_first is_equals text, b)) value)
    ∙ ap (λ z. map variable_of found ++ z) (sym (text_variable entry text utf8 same within))

-- The test for ASCII digits, and what follows from it.
use Rattle.std.proofs.Common.{◌≡◌, ℕ, ◌<◌, ◌&&◌, List, [], ◌∷◌, Bool, true, false, length, nat_le, refl, ap, rules, arith, None, ◌^◌, subst}
use Rattle.std.proofs.lemmas.Grind.{common_steps}
use Rattle.std.specs.Char.{digit_value, is_ascii_digit}
use Rattle.std.specs.List.{list_all}
use Rattle.std.specs.Str.{all_ascii_digits}
use Rattle.std.specs.Str.Parse.{AllDigits, IsNumeral, digits_value, without_leading_plus}
use Rattle.ptree.specs.Parse.{parse_number}

-- a digit is less than ten
digit_below : (c : ℕ) → is_ascii_digit c ≡ true → digit_value c < 10
digit_below c h = grind (arith, common_steps)

-- a text passes the test if each byte is a digit
pub digits_all : (s : List ℕ) → list_all is_ascii_digit s ≡ all_ascii_digits s
digits_all [] = refl
digits_all (c ∷ cs) = ap (λ b. is_ascii_digit c && b) (digits_all cs)

-- a text that passes the test has only digits
pub all_digits : (s : List ℕ) → all_ascii_digits s ≡ true → AllDigits 10 s
all_digits [] h = tt
all_digits (c ∷ cs) h = (digit_below c (search rules), all_digits cs (search rules))

-- a text that passes the test has no leading plus
pub no_plus : (s : List ℕ) → all_ascii_digits s ≡ true → without_leading_plus s ≡ s
no_plus [] h = refl
no_plus (c ∷ cs) h = grind (arith, common_steps)

-- the number of digits, by the test whether it is small enough
at_test : (s : List ℕ) (greatest : ℕ) (b : Bool) → nat_le (digits_value 10 s) greatest ≡ b → 0 < length s → all_ascii_digits s ≡ true
    → (digits_value 10 s < 2 ^ 64 → ⊥) → greatest < 2 ^ 64 → None ≡ parse_number greatest s
at_test s greatest false e long digits wide fits = search (rules, arith)
at_test s greatest true e long digits wide fits = absurd (wide (grind (arith, common_steps)))

-- a numeral that is too wide for 64 bits exceeds every number of 64 bits
pub too_wide : (s : List ℕ) (greatest : ℕ) → 0 < length s → all_ascii_digits s ≡ true
    → (IsNumeral 10 (without_leading_plus s) × (digits_value 10 (without_leading_plus s) < 2 ^ 64) → ⊥) → greatest < 2 ^ 64 → None ≡ parse_number greatest s
too_wide s greatest long digits refused fits =
    let P : List ℕ → Type 0 = λ t. IsNumeral 10 t × (digits_value 10 t < 2 ^ 64) → ⊥ in
    let no' : P s = subst P (no_plus s digits) refused in
    at_test s greatest _ refl long digits (λ h. no' ((long, all_digits s digits), h)) fits

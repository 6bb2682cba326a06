-- Escaped texts.
use Rattle.std.specs.Char.{digit_char}
use Rattle.std.specs.Prelude.{All, ◌/◌, ◌%◌, ◌||◌, unwrap_or, option_map, ◌↔◌}
use Rattle.std.specs.List.{list_any}
use Rattle.std.specs.Str.{NonePass, NoCharPasses, chars, encode_utf8_all}
use Rattle.std.proofs.Common.{◌≡◌, ◌≢◌, ◌⊎◌, ℕ, ◌<◌, ◌≤◌, ◌++◌, Bool, true, false, cond, eqb, List, [], ◌∷◌, length, length-append, get_or, Option, Some, None, flat_map, IsUtf8, inl, inr, refl, sym, ap, ◌∙◌, subst, arith}
use Rattle.std.proofs.lemmas.Bool.{false≢true, cases_lt}
use Rattle.std.proofs.lemmas.Bool.Decides.{nat_tests}
use Rattle.std.proofs.lemmas.List.Elements.{All-from_get_or}
use Rattle.std.proofs.lemmas.List.{flat_map_more}
use Rattle.std.proofs.lemmas.Str.{encodes_same, encodes-append, encodes-chars, NoCharPasses-byte}
use Rattle.ptree_trees.specs.Escape.{is_hidden, is_escaped, escape_letter, hex_digits, escape_char, escaped_text}

-- ## Characters

-- the character of a letter
abbrev letter_char : ℕ → ℕ
letter_char l = cond (eqb l 98) 8 (cond (eqb l 116) 9 (cond (eqb l 110) 10 (cond (eqb l 102) 12 (cond (eqb l 114) 13 92))))

-- what a letter means
letter_tells : (c l : ℕ) → escape_letter c ≡ Some l → (letter_char l ≡ c) × (l ≢ 117) × (33 ≤ l) × (l ≤ 126)
letter_tells c l e = grind (arith, nat_tests)

-- a character without a letter is no backslash
no_letter : (c : ℕ) → escape_letter c ≡ None → c ≢ 92
no_letter c e = grind (arith, nat_tests)

-- a hidden character has four digits
hidden_fits : (c : ℕ) → is_hidden c ≡ true → c < 65536
hidden_fits c e = grind (arith, nat_tests)

-- characters that are shown
shown_ascii : (c : ℕ) → 32 ≤ c → c ≤ 126 → is_hidden c ≡ false
shown_ascii c l h = grind (arith, nat_tests)

-- an ASCII character that is shown
ascii_shown : (c : ℕ) → c < 128 → is_hidden c ≡ false → (32 ≤ c) × (c ≢ 127)
ascii_shown c l h = grind (arith, nat_tests)

-- where a digit is
digit_range : (d : ℕ) → d < 16 → (48 ≤ digit_char d) × (digit_char d ≤ 102)
digit_range d h = grind (arith, nat_tests)

-- digits differ
same_digit : (x y : ℕ) → x < 16 → y < 16 → digit_char x ≡ digit_char y → x ≡ y
same_digit x y l h e = grind (arith, nat_tests)

-- a code by its digits
code_whole : (c d : ℕ) → c < 65536 → d < 65536 → c / 4096 ≡ d / 4096 → c / 256 % 16 ≡ d / 256 % 16 → c / 16 % 16 ≡ d / 16 % 16 → c % 16 ≡ d % 16 → c ≡ d
code_whole c d l h e f g i = omega arith

-- ## What stands for a character

-- a character that stands for itself
record IsPlain (c : ℕ) : Type 0 where
  form : escape_char c ≡ c ∷ []
  other : c ≢ 92
  shown : is_hidden c ≡ false

-- a character whose escape is a backslash and a letter
record HasLetter (c l : ℕ) : Type 0 where
  form : escape_char c ≡ 92 ∷ l ∷ []
  back : letter_char l ≡ c
  not_u : l ≢ 117
  low : 33 ≤ l
  high : l ≤ 126

-- a character whose escape has its four digits
record HasDigits (c : ℕ) : Type 0 where
  form : escape_char c ≡ 92 ∷ 117 ∷ hex_digits c
  fits : c < 65536

-- the forms
abbrev form_of : Option ℕ → Bool → ℕ → List ℕ
form_of o b c = unwrap_or (option_map (λ l. 92 ∷ l ∷ []) o) (cond b (92 ∷ 117 ∷ hex_digits c) (c ∷ []))

-- which form a character has, by its letter and by whether it is hidden
form_is : (c : ℕ) (o : Option ℕ) (b : Bool) → escape_letter c ≡ o → is_hidden c ≡ b → escape_char c ≡ form_of o b c
form_is c o b d e = ap (λ x. form_of x (is_hidden c) c) d ∙ ap (λ x. form_of o x c) e

-- a character has one of three forms
forms : (c : ℕ) → IsPlain c ⊎ ((l : ℕ) × HasLetter c l) ⊎ HasDigits c
forms c = by_tests (escape_letter c) (is_hidden c) refl refl where
  by_tests : (o : Option ℕ) (b : Bool) → escape_letter c ≡ o → is_hidden c ≡ b → IsPlain c ⊎ ((l : ℕ) × HasLetter c l) ⊎ HasDigits c
  by_tests (Some l) b d e = let k = letter_tells c l d in inr (inl (l, record { form = form_is c (Some l) b d e; back = k.0; not_u = k.1; low = k.2; high = k.3 }))
  by_tests None true d e = inr (inr (record { form = form_is c None true d e; fits = hidden_fits c e }))
  by_tests None false d e = inl (record { form = form_is c None false d e; other = no_letter c d; shown = e })

-- no form is a prefix of another one
same_char : (c d : ℕ) (r t : List ℕ) → escape_char c ++ r ≡ escape_char d ++ t → (c ≡ d) × (r ≡ t)
same_char c d r t e = by_forms (forms c) (forms d) where
  both : (xs ys : List ℕ) → escape_char c ≡ xs → escape_char d ≡ ys → xs ++ r ≡ ys ++ t
  both xs ys a b = ap (λ z. z ++ r) (sym a) ∙ (e ∙ ap (λ z. z ++ t) b)

  by_forms : IsPlain c ⊎ ((l : ℕ) × HasLetter c l) ⊎ HasDigits c → IsPlain d ⊎ ((l : ℕ) × HasLetter d l) ⊎ HasDigits d → (c ≡ d) × (r ≡ t)
  by_forms (inl p) (inl q) = let h = both _ _ p.form q.form in (cc, cc)
  by_forms (inl p) (inr (inl (m, q))) = let h = both _ _ p.form q.form in absurd (p.other cc)
  by_forms (inl p) (inr (inr q)) = let h = both _ _ p.form q.form in absurd (p.other cc)
  by_forms (inr (inl (l, p))) (inl q) = let h = both _ _ p.form q.form in absurd (q.other cc)
  by_forms (inr (inl (l, p))) (inr (inl (m, q))) =
      let h = both _ _ p.form q.form in
      let same : l ≡ m = cc in
      (sym p.back ∙ (ap letter_char same ∙ q.back), cc)
  by_forms (inr (inl (l, p))) (inr (inr q)) = let h = both _ _ p.form q.form in absurd (p.not_u cc)
  by_forms (inr (inr p)) (inl q) = let h = both _ _ p.form q.form in absurd (q.other cc)
  by_forms (inr (inr p)) (inr (inl (m, q))) = let h = both _ _ p.form q.form in absurd (q.not_u cc)
  by_forms (inr (inr p)) (inr (inr q)) =
      let h = both _ _ p.form q.form in
      let one : digit_char (c / 4096) ≡ digit_char (d / 4096) = cc in
      let two : digit_char (c / 256 % 16) ≡ digit_char (d / 256 % 16) = cc in
      let three : digit_char (c / 16 % 16) ≡ digit_char (d / 16 % 16) = cc in
      let four : digit_char (c % 16) ≡ digit_char (d % 16) = cc in
      let low = p.fits in
      let high = q.fits in (
        code_whole c d p.fits q.fits (same_digit _ _ (omega arith) (omega arith) one) (same_digit _ _ (omega arith) (omega arith) two)
            (same_digit _ _ (omega arith) (omega arith) three) (same_digit _ _ (omega arith) (omega arith) four),
        cc,
      )

-- a form is not empty
form_some : (c : ℕ) (r : List ℕ) → escape_char c ++ r ≢ []
form_some c r e = grind (arith, forms c)

-- ## Texts

-- characters that are escaped alike are the same
same_chars : (cs ds : List ℕ) → flat_map escape_char cs ≡ flat_map escape_char ds → cs ≡ ds
same_chars [] [] e = refl
same_chars [] (d ∷ ds) e = absurd (form_some d _ (sym e))
same_chars (c ∷ cs) [] e = absurd (form_some c _ e)
same_chars (c ∷ cs) (d ∷ ds) e =
    let h = same_char c d _ _ e in
    ap (λ z. z ∷ cs) h.0 ∙ ap (λ z. d ∷ z) (same_chars cs ds h.1)

-- texts that are escaped alike are the same
pub same_texts : (a b : List ℕ) → IsUtf8 a → IsUtf8 b → escaped_text a ≡ escaped_text b → a ≡ b
same_texts a b u v e =
    sym (encodes-chars a u) ∙ (ap encode_utf8_all (same_chars (chars a) (chars b) (encodes_same _ _ e)) ∙ encodes-chars b v)

-- what none passes in two lists
pub none_append : (p : ℕ → Bool) (xs ys : List ℕ) → NonePass p xs → NonePass p ys → NonePass p (xs ++ ys)
none_append p [] ys h k = k
none_append p (x ∷ xs) ys h k = (h.0, none_append p xs ys h.1 k)

-- no character that stands for one is hidden
pub form_shown : (c : ℕ) → NonePass is_hidden (escape_char c)
form_shown c = by_form (forms c) where
  digit : (d : ℕ) → d < 16 → is_hidden (digit_char d) ≡ false
  digit d h = let k = digit_range d h in shown_ascii (digit_char d) (omega arith) (omega arith)

  by_form : IsPlain c ⊎ ((l : ℕ) × HasLetter c l) ⊎ HasDigits c → NonePass is_hidden (escape_char c)
  by_form (inl p) = subst (NonePass is_hidden) (sym p.form) (p.shown, tt)
  by_form (inr (inl (l, p))) = let low = p.low in subst (NonePass is_hidden) (sym p.form) (refl, (shown_ascii l (omega arith) p.high, tt))
  by_form (inr (inr p)) =
      let low = p.fits in
      let one : c / 4096 < 16 = omega arith in
      let two : c / 256 % 16 < 16 = omega arith in
      let three : c / 16 % 16 < 16 = omega arith in
      let four : c % 16 < 16 = omega arith in
      subst (NonePass is_hidden) (sym p.form) (refl, (refl, (digit _ one, (digit _ two, (digit _ three, (digit _ four, tt))))))

-- no character of an escaped text is hidden
all_shown : (cs : List ℕ) → NonePass is_hidden (flat_map escape_char cs)
all_shown [] = tt
all_shown (c ∷ cs) = none_append is_hidden (escape_char c) (flat_map escape_char cs) (form_shown c) (all_shown cs)

-- no character of an escaped text is hidden, as the contract says it
pub text_shown : (text : List ℕ) → NoCharPasses is_hidden (escaped_text text)
text_shown text = (flat_map escape_char (chars text), refl, all_shown (chars text))

-- the bytes of a text without a hidden character
pub bytes_shown : (bs : List ℕ) → NoCharPasses is_hidden bs → All (λ b. (32 ≤ b) × (b ≢ 127)) bs
bytes_shown bs h = All-from_get_or (λ b. (32 ≤ b) × (b ≢ 127)) bs 0 (λ i l. elim (cases_lt (get_or bs i 0) 128) [
  | inl low ↦ ascii_shown (get_or bs i 0) low (NoCharPasses-byte is_hidden bs i h l low)
  | inr high ↦ (omega arith, λ e. omega arith)
])

-- ## What escaping changes

-- what is not changed
unchanged : (c : ℕ) → is_escaped c ≡ false → (escape_letter c ≡ None) × (is_hidden c ≡ false)
unchanged c e = (grind (arith, nat_tests), grind (arith, nat_tests))

-- what is plain is not changed
plain_same : (c : ℕ) → c ≢ 92 → is_hidden c ≡ false → is_escaped c ≡ false
plain_same c h e = ap (λ b. eqb c 92 || b) e ∙ grind (arith, nat_tests)

-- a form is at least as long as its character, and longer if it is changed
form_long : (c : ℕ) → (1 ≤ length (escape_char c)) × (is_escaped c ≡ true → 2 ≤ length (escape_char c))
form_long c = grind (arith, forms c, plain_same c)

-- characters of which none is changed
all_same : (cs : List ℕ) → list_any is_escaped cs ≡ false → flat_map escape_char cs ≡ cs
all_same [] e = refl
all_same (c ∷ cs) e = grind (arith, all_same cs, unchanged c, form_is c None false)

-- the length of escaped characters
all_long : (cs : List ℕ) → (length cs ≤ length (flat_map escape_char cs)) × (list_any is_escaped cs ≡ true → length cs < length (flat_map escape_char cs))
all_long [] = (omega arith, λ e. absurd (false≢true e))
all_long (c ∷ cs) = grind (arith, length-append (escape_char c) (flat_map escape_char cs), all_long cs, form_long c)

-- a text has no escape exactly if escaping leaves it as it is
pub same_if : (text : List ℕ) (r : Bool) → IsUtf8 text → r ≡ list_any is_escaped (chars text) → (r ≡ false) ↔ (escaped_text text ≡ text)
same_if text r u is = (
  λ h. ap encode_utf8_all (all_same (chars text) (sym is ∙ h)) ∙ encodes-chars text u,
  λ same.
      let cs : flat_map escape_char (chars text) ≡ chars text = encodes_same _ _ (same ∙ sym (encodes-chars text u)) in
      grind (arith, is, (all_long (chars text)).1, ap length cs),
)

-- ## The loop

-- one character more, with what stands for each
pub char_pushed : (form : ℕ → List ℕ) (cs : List ℕ) (c : ℕ) (old new : List ℕ) → old ≡ encode_utf8_all (flat_map form cs) → new ≡ old ++ encode_utf8_all (form c)
    → new ≡ encode_utf8_all (flat_map form (cs ++ c ∷ []))
char_pushed form cs c old new is pushed =
    pushed ∙ (ap (λ z. z ++ encode_utf8_all (form c)) is ∙ (sym (encodes-append (flat_map form cs) (form c)) ∙ ap encode_utf8_all (flat_map_more form [] cs c)))

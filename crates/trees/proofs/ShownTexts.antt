-- Texts that a terminal may get.
use Rattle.std.specs.Fmt.{decimal, digits, digits_onto, digit_glyph}
use Rattle.std.specs.Str.{chars, encode_utf8_all, NonePass, NoCharPasses}
use Rattle.trees.proofs.Common.{◌≡◌, ◌≢◌, ◌<◌, ◌/◌, ◌%◌, ℕ, zero, suc, ◌++◌, Bool, true, false, cond, eqb, List, [], ◌∷◌, flat_map, inl, inr, refl, sym, ap, ◌∙◌, subst, ◌==◌, ◌||◌, ◌&&◌, not, ◌⊎◌, All, codes, nat_lt, append-nil, ne_eqb, true≢false, arith, concat, list_all, All-nil, All-cons, All-head, All-tail, All-append, concat-append, NoCharPasses-nil, NoCharPasses-append, encode_ascii, encodes-append, NoCharPasses-char, StyleValue, start_codes, end_codes, painted_text, HasNoLineFeed, is_hidden, escape_char, escaped_text}
use Rattle.std.proofs.lemmas.Bool.Decides.{nat_tests}
use Rattle.ptree.specs.Drawing.{Look, with_inserted}
use Rattle.ptree.proofs.Drawing.Inserted.{is_feed, inserted_feed, inserted-append, inserted_none, no_line_feed_from_reads}
use Rattle.ptree.proofs.Styles.PaintedTexts.{no_line_feed_start, no_line_feed_end}
use Rattle.ptree_trees.proofs.Escapes.{none_append, form_shown, text_shown}
use Rattle.trees.specs.Shown.{shown_char, shown_lines, is_raw, IsCodeOf, IsLookCode, IsShown}

-- ## Texts

-- a text of one character of ASCII that does not pass
pub ascii_calm : (p : ℕ → Bool) (c : ℕ) → c < 128 → p c ≡ false → NoCharPasses p (c ∷ [])
ascii_calm p c low h = (c ∷ [], append-nil _ ∙ encode_ascii c low, (h, tt))

-- a text of such characters
pub ascii_text : (bs : List ℕ) → list_all (λ b. nat_lt b 128 && not (is_raw b)) bs ≡ true → NoCharPasses is_raw bs
ascii_text [] h = NoCharPasses-nil is_raw
ascii_text (b ∷ bs) h = by_test (nat_lt b 128) (is_raw b) refl refl h (λ k. ascii_text bs k) where
  by_test : (x y : Bool) → nat_lt b 128 ≡ x → is_raw b ≡ y → (x && not y && list_all (λ b. nat_lt b 128 && not (is_raw b)) bs) ≡ true
      → (list_all (λ b. nat_lt b 128 && not (is_raw b)) bs ≡ true → NoCharPasses is_raw bs) → NoCharPasses is_raw (b ∷ bs)
  by_test true false e f k rest = NoCharPasses-append is_raw (b ∷ []) bs (ascii_calm is_raw b (grind (arith, nat_tests)) f) (rest k)
  by_test true true e f k rest = absurd (true≢false (sym k))
  by_test false y e f k rest = absurd (true≢false (sym k))

-- a digit is not raw
digit_calm : (n : ℕ) → NoCharPasses is_raw (digit_glyph false (n % 10) ∷ [])
digit_calm n = ascii_calm is_raw (digit_glyph false (n % 10)) (grind (arith, nat_tests)) (grind (arith, nat_tests))

-- digits before a text that is not raw
digits_calm : (k n : ℕ) (text : List ℕ) → NoCharPasses is_raw text → NoCharPasses is_raw (digits_onto k 10 false n text)
digits_calm zero n text h = h
digits_calm (suc k) n text h =
    let more = NoCharPasses-append is_raw (digit_glyph false (n % 10) ∷ []) text (digit_calm n) h in
    by_test (n / 10 == 0) more (digits_calm k (n / 10) (digit_glyph false (n % 10) ∷ text) more) where
      by_test : (b : Bool) → NoCharPasses is_raw (digit_glyph false (n % 10) ∷ text) → NoCharPasses is_raw (digits_onto k 10 false (n / 10) (digit_glyph false (n % 10) ∷ text))
          → NoCharPasses is_raw (cond b (digit_glyph false (n % 10) ∷ text) (digits_onto k 10 false (n / 10) (digit_glyph false (n % 10) ∷ text)))
      by_test true one more = one
      by_test false one more = more

-- nor is a number
pub number_calm : (n : ℕ) → NoCharPasses is_raw (decimal n)
unfolding digits
number_calm n = digits_calm 64 n [] (NoCharPasses-nil is_raw)

-- a line feed is one byte
feed_byte : encode_utf8_all (10 ∷ []) ≡ 10 ∷ []
feed_byte = append-nil _ ∙ encode_ascii 10 (omega arith)

-- a line feed is not raw
pub feed_calm : NoCharPasses is_raw (10 ∷ [])
feed_calm = ascii_calm is_raw 10 (omega arith) refl

-- the mark of repeated occurrences has no hidden character
pub mark_calm : NoCharPasses is_hidden (codes " (*)")
mark_calm =
    let one : (c : ℕ) → c < 128 → is_hidden c ≡ false → NoCharPasses is_hidden (c ∷ []) = ascii_calm is_hidden in
    NoCharPasses-append is_hidden (32 ∷ []) (40 ∷ 42 ∷ 41 ∷ []) (one 32 (omega arith) refl)
    (NoCharPasses-append is_hidden (40 ∷ []) (42 ∷ 41 ∷ []) (one 40 (omega arith) refl) (NoCharPasses-append is_hidden (42 ∷ []) (41 ∷ []) (one 42 (omega arith) refl) (one 41 (omega arith) refl)))

-- what is not hidden is not raw
calm_chars : (cs : List ℕ) → NonePass is_hidden cs → NonePass is_raw cs
calm_chars [] h = h
calm_chars (c ∷ cs) h = (ap (λ b. b && not (c == 10)) h.0, calm_chars cs h.1)

-- a line feed and a backslash are not raw
kept_calm : (c : ℕ) → (c == 10 || c == 92) ≡ true → is_raw c ≡ false
kept_calm c e = grind (arith, nat_tests)

-- no character that a terminal gets for one is raw
char_calm : (c : ℕ) → NonePass is_raw (shown_char c)
char_calm c = by_test (c == 10 || c == 92) refl where
  by_test : (b : Bool) → (c == 10 || c == 92) ≡ b → NonePass is_raw (cond b (c ∷ []) (escape_char c))
  by_test true e = (kept_calm c e, tt)
  by_test false e = calm_chars (escape_char c) (form_shown c)

-- nor is one of those for several
chars_calm : (cs : List ℕ) → NonePass is_raw (flat_map shown_char cs)
chars_calm [] = tt
chars_calm (c ∷ cs) = none_append is_raw (shown_char c) (flat_map shown_char cs) (char_calm c) (chars_calm cs)

-- lines as a terminal may get them have no raw character
pub lines_calm : (text : List ℕ) → NoCharPasses is_raw (shown_lines text)
lines_calm text = (flat_map shown_char (chars text), refl, chars_calm (chars text))

-- nor has a text without a hidden one
pub calm : (text : List ℕ) → NoCharPasses is_hidden text → NoCharPasses is_raw text
calm text h = (h.0, h.1, calm_chars h.0 h.2)

-- nor has an escaped text
pub escaped_calm : (text : List ℕ) → NoCharPasses is_raw (escaped_text text)
escaped_calm text = calm (escaped_text text) (text_shown text)

-- ## Parts

module _ (Code : List ℕ → Type 0) where
  -- a text, or a code
  abbrev pub IsPart : List ℕ → Type 0
  IsPart part = NoCharPasses is_raw part ⊎ Code part

  -- nothing is shown
  pub none_shown : IsShown Code []
  none_shown = ([], refl, All-nil IsPart)

  -- two texts that are shown are, joined
  pub both_shown : (a b : List ℕ) → IsShown Code a → IsShown Code b → IsShown Code (a ++ b)
  both_shown a b h k = (
    h.0 ++ k.0,
    ap (λ z. z ++ b) h.1 ∙ (ap (λ z. concat h.0 ++ z) k.1 ∙ sym (concat-append h.0 k.0)),
    All-append IsPart h.0 k.0 h.2 k.2,
  )

  -- one part is shown
  part_shown : (part : List ℕ) → IsPart part → IsShown Code part
  part_shown part h = (part ∷ [], sym (append-nil part), All-cons IsPart part [] h (All-nil IsPart))

  -- a text without a raw character is shown
  pub calm_shown : (text : List ℕ) → NoCharPasses is_raw text → IsShown Code text
  calm_shown text h = part_shown text (inl h)

  -- a code is shown
  pub code_shown : (code : List ℕ) → Code code → IsShown Code code
  code_shown code h = part_shown code (inr h)

  -- a text painted in a style with such codes is shown
  pub painted_shown : (style : StyleValue) → ((part : List ℕ) → IsCodeOf style part → Code part) → (text : List ℕ) → IsShown Code text → IsShown Code (painted_text style text)
  painted_shown style in' text h =
      let start : IsShown Code (start_codes style) = code_shown (start_codes style) (in' (start_codes style) (inl refl)) in
      both_shown (start_codes style ++ text) (end_codes style) (both_shown (start_codes style) text start h) (code_shown (end_codes style) (in' (end_codes style) (inr refl)))

-- ## Further lines

-- the bytes of another character than a line feed hold none
char_line : (c : ℕ) → c ≢ 10 → HasNoLineFeed (encode_utf8_all (c ∷ []))
char_line c h =
    let none : NoCharPasses (λ d. eqb d 10) (encode_utf8_all (c ∷ [])) = (c ∷ [], refl, (ne_eqb c 10 h, tt)) in
    no_line_feed_from_reads (encode_utf8_all (c ∷ [])) (λ i low. NoCharPasses-char 10 (encode_utf8_all (c ∷ [])) i none (omega arith) low)

-- codes hold none
pub code_line : (style : StyleValue) (part : List ℕ) → IsCodeOf style part → HasNoLineFeed part
code_line style part (inl start) = subst HasNoLineFeed (sym start) (no_line_feed_start style)
code_line style part (inr end) = subst HasNoLineFeed (sym end) (no_line_feed_end style)

-- those of a look
pub look_code_line : (look : Look) (part : List ℕ) → IsLookCode look part → HasNoLineFeed part
look_code_line look part (inl branch) = code_line look.branch part branch
look_code_line look part (inr leaf) = code_line look.leaf part leaf

-- what is inserted into a text that is shown
module _ (Code : List ℕ → Type 0) (lines : (part : List ℕ) → Code part → HasNoLineFeed part) (inserted : List ℕ) (shown : IsShown Code inserted) where
  -- into characters
  chars_inserted : (cs : List ℕ) → NonePass is_raw cs → IsShown Code (with_inserted inserted (encode_utf8_all cs))
  chars_inserted [] h = none_shown Code
  chars_inserted (c ∷ cs) h =
      let parts : with_inserted inserted (encode_utf8_all (c ∷ cs)) ≡ with_inserted inserted (encode_utf8_all (c ∷ [])) ++ with_inserted inserted (encode_utf8_all cs) =
      ap (with_inserted inserted) (encodes-append (c ∷ []) cs) ∙ inserted-append inserted (encode_utf8_all (c ∷ [])) (encode_utf8_all cs) in
      subst (IsShown Code) (sym parts) (both_shown Code _ _ (first (is_feed c)) (chars_inserted cs h.1))
    where
      first : (c ≡ 10) ⊎ (c ≢ 10) → IsShown Code (with_inserted inserted (encode_utf8_all (c ∷ [])))
      first (inl feed) =
          let is : encode_utf8_all (c ∷ []) ≡ 10 ∷ [] = ap (λ z. encode_utf8_all (z ∷ [])) feed ∙ feed_byte in
          subst (λ t. IsShown Code (with_inserted inserted t)) (sym is)
          (subst (IsShown Code) (sym (inserted_feed inserted 10 [] refl)) (both_shown Code (10 ∷ []) (inserted ++ []) (calm_shown Code (10 ∷ []) feed_calm) (both_shown Code inserted [] shown (none_shown Code))))
      first (inr other) =
          subst (IsShown Code) (sym (inserted_none inserted (encode_utf8_all (c ∷ [])) (char_line c other))) (calm_shown Code (encode_utf8_all (c ∷ [])) (c ∷ [], refl, (h.0, tt)))

  -- into parts
  parts_inserted : (parts : List (List ℕ)) → All (IsPart Code) parts → IsShown Code (with_inserted inserted (concat parts))
  parts_inserted [] h = none_shown Code
  parts_inserted (p ∷ ps) h =
      subst (IsShown Code) (sym (inserted-append inserted p (concat ps)))
      (both_shown Code _ _ (first (All-head (IsPart Code) p ps h)) (parts_inserted ps (All-tail (IsPart Code) p ps h)))
    where
      first : IsPart Code p → IsShown Code (with_inserted inserted p)
      first (inl calm) = subst (λ t. IsShown Code (with_inserted inserted t)) calm.1 (chars_inserted calm.0 calm.2)
      first (inr code) = subst (IsShown Code) (sym (inserted_none inserted p (lines p code))) (code_shown Code p code)

  -- into all of it
  pub text_inserted : (text : List ℕ) → IsShown Code text → IsShown Code (with_inserted inserted text)
  text_inserted text h = subst (λ t. IsShown Code (with_inserted inserted t)) (sym h.1) (parts_inserted h.0 h.2)

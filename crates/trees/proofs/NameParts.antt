-- Names and versions in texts.
use Rattle.trees.proofs.Common.{◌≡◌, ◌≢◌, ◌∙◌, ℕ, suc, ◌+◌, ◌-◌, ◌<◌, ◌≤◌, ◌&&◌, ◌||◌, Bool, true, false, cond, eqb, eqb-true, List, [], ◌∷◌, ◌++◌, length, get_or, take, drop, codes, inl, inr, refl, sym, ap, subst, append_assoc, length-append, Bor, Option, Some, None, MatchBool, MatchOption, unwrap_or, arith, bytes_eq-Decides, after_first, before_first, position_or_len, begins_with}
use Rattle.std.proofs.Math.Bool.{or-false}
use Rattle.std.proofs.lemmas.Bool.{and_left, cond-false, cond-true, eq-eqb, false≢true, false_from_ne_true, ne_eqb, or_cases, or_from, or_left, or_right}
use Rattle.std.proofs.lemmas.List.{append-nil, get_or-take, length-drop, length-take, nil_from_length, take_all}
use Rattle.std.proofs.lemmas.List.Sums.{position_or_len_is}
use Rattle.std.proofs.lemmas.Str.{IsCharBoundary-before_ascii, IsCharBoundary-start, NoCharPasses-byte, len_utf8_ascii}
use Rattle.std.proofs.lemmas.Str.Pattern.{strip_prefix_char}
use Rattle.std.specs.Char.{char_set_contains}
use Rattle.std.specs.Str.{bytes_eq, IsUtf8, NoCharPasses}
use Rattle.std.specs.Str.Pattern.{FindsBy, FindsCharPrefix, FindsTextPrefix, GetsRange, HasPrefixMatch, LacksTextAt, StripsPrefix}
use Rattle.ptree_trees.proofs.PartTexts.{begins, begun}
use Rattle.trees.specs.Listing.{is_empty}
use Rattle.trees.specs.Naming.{ends_name, is_called, is_labelled, is_version, own_name, version_text, without_front}
use Rattle.trees.proofs.Networks.{eqb_flips}

-- ## Fronts

-- a text without a byte at its front, by `strip_prefix`
left_whole : (c : ℕ) (text : List ℕ) → ((rest : List ℕ) → text ≢ c ∷ rest) → without_front c text ≡ text
left_whole c [] other = refl
left_whole c (b ∷ text) other = cond-false (eqb b c) text (b ∷ text) (ne_eqb b c (λ same. other text (ap (λ (x : ℕ). x ∷ text) same)))

pub front_left : (c : ℕ) (text : List ℕ) (r : Option (Bor (List ℕ))) (d : Bor (List ℕ)) → c < 128 → d.now ≡ text → MatchOption r (FindsCharPrefix c text None) (λ x. StripsPrefix (FindsCharPrefix c) text x.now)
    → (unwrap_or r d).now ≡ without_front c text
front_left c text None d low same cut = same ∙ sym (left_whole c text (strip_prefix_char c text None cut low))
front_left c text (Some x) d low same cut =
    sym (ap (without_front c) (strip_prefix_char c text (Some x) cut low) ∙ cond-true (eqb c c) x.now (c ∷ x.now) (eq-eqb c c refl))

left_short : (c : ℕ) (text : List ℕ) → length (without_front c text) ≤ length text
left_short c [] = omega arith
left_short c (b ∷ text) = by (eqb b c) where
  by : (e : Bool) → length (cond e text (b ∷ text)) ≤ length (b ∷ text)
  by true = omega arith
  by false = omega arith

-- ## Ends of names

-- the characters that end a name are those bytes
set_is : (c : ℕ) → char_set_contains (32 ∷ 64 ∷ []) c ≡ ends_name c
set_is c =
    ap (λ (x : Bool). x || (eqb 64 c || false)) (eqb_flips 32 c) ∙ (ap (λ (y : Bool). eqb c 32 || (y || false)) (eqb_flips 64 c) ∙ ap (λ (z : Bool). eqb c 32 || z) (or-false (eqb c 64)))

end_low : (c : ℕ) → ends_name c ≡ true → c < 128
end_low c is = elim (or_cases (eqb c 32) (eqb c 64) is) [
  | inl e ↦ let same = eqb-true c 32 e in omega arith
  | inr e ↦ let same = eqb-true c 64 e in omega arith
]

-- a text without such a character has no such byte
none_ends : (text : List ℕ) → NoCharPasses ends_name text → (k : ℕ) → k < length text → ends_name (get_or text k 0) ≡ false
none_ends text none k low =
    false_from_ne_true (ends_name (get_or text k 0)) (λ is. false≢true (sym (NoCharPasses-byte ends_name text k none low (end_low (get_or text k 0) is)) ∙ is))

-- ## Names

-- where the name of a text ends
cut_at : (text : List ℕ) (end : ℕ) → end + length (without_front 64 text) ≡ length text + position_or_len ends_name (without_front 64 text) → take end text ≡ own_name text
cut_at [] end is = let none : end + 0 ≡ 0 + 0 = is in let same : end ≡ 0 = omega (arith, none) in ap (λ (n : ℕ). take n []) same
cut_at (b ∷ text) end is = by (eqb b 64) refl where
  by : (e : Bool) → eqb b 64 ≡ e → take end (b ∷ text) ≡ own_name (b ∷ text)
  by true e =
      let rest = cond-true (eqb b 64) text (b ∷ text) e in
      let more : end ≡ suc (position_or_len ends_name text) = omega (arith, subst (λ (t : List ℕ). end + length t ≡ length (b ∷ text) + position_or_len ends_name t) rest is) in
      ap (λ (n : ℕ). take n (b ∷ text)) more ∙ sym (cond-true (eqb b 64) (b ∷ before_first ends_name text) (before_first ends_name (b ∷ text)) e)
  by false e =
      let rest = cond-false (eqb b 64) text (b ∷ text) e in
      let same : end ≡ position_or_len ends_name (b ∷ text) = omega (arith, subst (λ (t : List ℕ). end + length t ≡ length (b ∷ text) + position_or_len ends_name t) rest is) in
      ap (λ (n : ℕ). take n (b ∷ text)) same ∙ sym (cond-false (eqb b 64) (b ∷ before_first ends_name text) (before_first ends_name (b ∷ text)) e)

-- the byte there
byte_at : (text : List ℕ) (end i : ℕ) → end + length (without_front 64 text) ≡ length text + i → get_or text end 0 ≡ get_or (without_front 64 text) i 0
byte_at [] end i is = let none : end + 0 ≡ 0 + i = is in let same : end ≡ i = omega (arith, none) in ap (λ (n : ℕ). get_or [] n 0) same
byte_at (b ∷ text) end i is = by (eqb b 64) refl where
  by : (e : Bool) → eqb b 64 ≡ e → get_or (b ∷ text) end 0 ≡ get_or (without_front 64 (b ∷ text)) i 0
  by true e =
      let rest = cond-true (eqb b 64) text (b ∷ text) e in
      let more : end ≡ suc i = omega (arith, subst (λ (t : List ℕ). end + length t ≡ length (b ∷ text) + i) rest is) in
      ap (λ (n : ℕ). get_or (b ∷ text) n 0) more ∙ sym (ap (λ (t : List ℕ). get_or t i 0) rest)
  by false e =
      let rest = cond-false (eqb b 64) text (b ∷ text) e in
      let same : end ≡ i = omega (arith, subst (λ (t : List ℕ). end + length t ≡ length (b ∷ text) + i) rest is) in
      ap (λ (n : ℕ). get_or (b ∷ text) n 0) same ∙ sym (ap (λ (t : List ℕ). get_or t i 0) rest)

-- the clauses of `split_once` at a blank or `@`
abbrev pub FindsEnd : List ℕ → Option (ℕ × ℕ) → Type 0
FindsEnd text o = (k : ℕ → Bool) → ((c : ℕ) → char_set_contains (32 ∷ 64 ∷ []) c ≡ k c) → FindsBy k text o

-- a text that is a name
module _ (text rest : List ℕ) (is : rest ≡ without_front 64 text) (none : FindsEnd rest None) where
  end_none : position_or_len ends_name rest ≡ length rest
  end_none = position_or_len_is ends_name rest (length rest) 0 (omega arith) (none_ends rest (none ends_name set_is)) (λ low. absurd (omega arith))

  pub name_alone : text ≡ own_name text
  name_alone =
      sym (take_all (length text) text (omega arith))
      ∙ cut_at text (length text) (subst (λ (t : List ℕ). length text + length t ≡ length text + position_or_len ends_name t) is (ap (λ (n : ℕ). length text + n) (sym end_none)))

  pub version_none : [] ≡ version_text text
  version_none =
      sym (ap (λ (t : List ℕ). without_front 118 (after_first ends_name t)) (sym is)
      ∙ ap (without_front 118) (nil_from_length (drop (position_or_len ends_name rest + 1) rest) (omega (arith, length-drop (position_or_len ends_name rest + 1) rest, end_none))))

-- a text with a version behind the name
module _ (text rest back : List ℕ) (i j end : ℕ) (is : rest ≡ without_front 64 text) (found : FindsEnd rest (Some (i, j))) (behind : back ≡ drop j rest) (fits : length back + j ≡ length rest) (last : end ≡ length text - length back - 1) where
  at : FindsBy ends_name rest (Some (i, j))
  at = found ends_name set_is

  low : at.1.0 < 128
  low = end_low at.1.0 at.1.1

  step : j ≡ i + 1
  step = omega (arith, at.1.2.ends, len_utf8_ascii at.1.0 low)

  byte : get_or rest i 0 ≡ at.1.0
  byte = at.1.2.byte low

  place : position_or_len ends_name rest ≡ i
  place =
      position_or_len_is ends_name rest i 0 (omega (arith, fits, step))
      (λ k l. ap ends_name (sym (get_or-take i rest k 0 l)) ∙ none_ends (take i rest) at.0 k (omega (arith, l, length-take i rest, fits, step))) (λ l. ap ends_name byte ∙ at.1.1)

  ends : end + length (without_front 64 text) ≡ length text + i
  ends = (let short = left_short 64 text in let same = ap length is in omega (arith, short, same, fits, step, last))

  pub name_cut : take end text ≡ own_name text
  name_cut = cut_at text end (subst (λ (t : List ℕ). end + length (without_front 64 text) ≡ length text + position_or_len ends_name t) is (ends ∙ ap (λ (n : ℕ). length text + n) (sym place)))

  pub version_cut : without_front 118 back ≡ version_text text
  version_cut =
      ap (without_front 118)
      (behind ∙ (ap (λ (n : ℕ). drop n rest) (step ∙ ap (λ (n : ℕ). n + 1) (sym place)) ∙ ap (after_first ends_name) is))

  -- `get` up to that end
  pub name_got : (r : Option (Bor (List ℕ))) (d : Bor (List ℕ)) → IsUtf8 text → GetsRange text 0 end r → (unwrap_or r d).now ≡ own_name text
  name_got None d utf8 none = absurd (none (omega arith) (IsCharBoundary-start text utf8)
      (IsCharBoundary-before_ascii text end (let same = ap length is in omega (arith, ends, same, fits, step)) (omega (arith, byte_at text end i ends, ap (λ (t : List ℕ). get_or t i 0) is, byte, low))))
  name_got (Some x) d utf8 got = got.0 ∙ (ap (λ (n : ℕ). take n text) (let same : end - 0 ≡ end = omega arith in same) ∙ name_cut)

-- ## Versions

-- `strip_prefix` at a text
pub strip_is : (part text : List ℕ) (x : Bor (List ℕ)) → StripsPrefix (FindsTextPrefix part) text x.now → text ≡ part ++ x.now
strip_is part text x cut = cut.1.1 ∙ ap (λ (t : List ℕ). part ++ t) (sym cut.2)

begins_not : (part text : List ℕ) → ((rest : List ℕ) → text ≢ part ++ rest) → begins_with part text ≡ false
begins_not part text other = false_from_ne_true (begins_with part text) (λ is. let b = begins part text is in other b.0 b.1)

-- a test for the beginning of a text
begins_by_test : (part text : List ℕ) → HasPrefixMatch (FindsTextPrefix part) text → begins_with part text ≡ true
begins_by_test part text m = subst (λ (t : List ℕ). begins_with part t ≡ true) (sym m.1.1) (begun part (drop m.0 text))

-- `starts_with` at a text
pub starts_is : (part text : List ℕ) (r : Bool) → MatchBool r (HasPrefixMatch (FindsTextPrefix part) text) (FindsTextPrefix part text None) → r ≡ begins_with part text
starts_is part text true has = sym (begins_by_test part text has)
starts_is part text false lacks = sym (begins_not part text lacks)

begins_same : (front part rest : List ℕ) → begins_with (front ++ part) (front ++ rest) ≡ begins_with part rest
begins_same [] part rest = refl
begins_same (b ∷ front) part rest = ap (λ (e : Bool). e && begins_with (front ++ part) (front ++ rest)) (eq-eqb b b refl) ∙ begins_same front part rest

filled : (text : List ℕ) → length text ≢ 0 → is_empty text ≡ false
filled [] some = absurd (some refl)
filled (b ∷ text) some = refl

module _ (wanted version : List ℕ) where
  -- one that does not begin with the wanted one
  pub version_other : length wanted ≢ 0 → LacksTextAt wanted version 0 → is_version wanted version ≡ false
  version_other some lacks =
      or_from (is_empty wanted) (bytes_eq version wanted || begins_with (wanted ++ codes " (") version) (filled wanted some)
      (or_from (bytes_eq version wanted) (begins_with (wanted ++ codes " (") version)
      (false_from_ne_true (bytes_eq version wanted) (λ is. lacks [] ((bytes_eq-Decides version wanted).0 is ∙ sym (append-nil wanted))))
      (begins_not (wanted ++ codes " (") version (λ rest is. lacks (codes " (" ++ rest) (is ∙ append_assoc wanted (codes " (") rest))))

  module _ (rest : List ℕ) (is : version ≡ wanted ++ rest) where
    -- the wanted one alone
    pub version_same : length rest ≡ 0 → is_version wanted version ≡ true
    version_same none =
        or_right (is_empty wanted) (bytes_eq version wanted || begins_with (wanted ++ codes " (") version)
        (or_left (bytes_eq version wanted) (begins_with (wanted ++ codes " (") version) ((bytes_eq-Decides version wanted).1 (is ∙ (ap (λ (t : List ℕ). wanted ++ t) (nil_from_length rest none) ∙ append-nil wanted))))

    -- something behind it
    pub version_more : length wanted ≢ 0 → length rest ≢ 0 → (r : Bool) → r ≡ begins_with (codes " (") rest → r ≡ is_version wanted version
    version_more some more r says =
        says ∙ (sym (begins_same wanted (codes " (") rest) ∙ (ap (begins_with (wanted ++ codes " (")) (sym is)
        ∙ sym (by (is_empty wanted) (bytes_eq version wanted) (filled wanted some) longer))) where
          longer : bytes_eq version wanted ≡ false
          longer = false_from_ne_true (bytes_eq version wanted) (λ same. let long = ap length (sym is ∙ (bytes_eq-Decides version wanted).0 same) in more (let size = length-append wanted rest in omega arith))

          by : (a b : Bool) → a ≡ false → b ≡ false → (a || (b || begins_with (wanted ++ codes " (") version)) ≡ begins_with (wanted ++ codes " (") version
          by false false first second = refl
          by true b first second = absurd (false≢true (sym first))
          by false true first second = absurd (false≢true (sym second))

-- ## Labels

-- a label that is no alias
pub no_alias : (name label version : List ℕ) → version ≡ version_text label → is_called name label ≡ false → LacksTextAt (codes "npm:") version 0 → is_labelled name label ≡ false
no_alias name label version is other lacks =
    or_from (is_called name label) (begins_with (codes "npm:") (version_text label) && is_called name (drop 4 (version_text label))) other
    (and_left (begins_with (codes "npm:") (version_text label)) (is_called name (drop 4 (version_text label))) (begins_not (codes "npm:") (version_text label) (λ rest e. lacks rest (is ∙ e))))

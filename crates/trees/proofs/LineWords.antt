-- Words of lines.
use Rattle.trees.proofs.Common.{◌≡◌, ◌∙◌, ℕ, ◌<◌, not, Bool, true, false, List, [], ◌∷◌, ◌++◌, length, length-append, map, codes, refl, sym, ap, subst, append_assoc, filter, append-nil, arith, not-false, AllByRecursion, slice_split}
use Rattle.std.proofs.lemmas.List.Elements.{All-from_recursion}
use Rattle.std.proofs.lemmas.List.Splits.{slice_split-cons_yes, slice_split_none, slice_split_at}
use Rattle.std.proofs.lemmas.Str.{cons_from_encodes, encodes_same, length-encode, len_utf8_bounds}
use Rattle.std.specs.Char.{encode_utf8, is_whitespace, is_not_whitespace}
use Rattle.std.specs.Str.{encode_utf8_all, NonePass, NoCharPasses, EmptyOrStartsWithPassing}
use Rattle.trees.specs.DependingParts.{are_no_pair}
use Rattle.trees.specs.Listing.{is_empty}

-- ## Characters

-- what stands between the characters that pass a test
module _ (p : ℕ → Bool) where
  abbrev pub parts : List ℕ → List (List ℕ)
  parts cs = filter (λ part. not (is_empty part)) (slice_split p cs)

  -- no character of the list is no white space
  none_other : (cs : List ℕ) → NonePass (λ c. not (p c)) cs → AllByRecursion (λ c. p c ≡ true) cs
  none_other [] h = tt
  none_other (c ∷ cs) h = (not-false (p c) h.0, none_other cs h.1)

  none_passes : (cs : List ℕ) → NonePass p cs → AllByRecursion (λ c. p c ≡ false) cs
  none_passes [] h = tt
  none_passes (c ∷ cs) h = (h.0, none_passes cs h.1)

  -- those before all others don't count
  pub blank_front : (gap cs : List ℕ) → AllByRecursion (λ c. p c ≡ true) gap → parts (gap ++ cs) ≡ parts cs
  blank_front [] cs h = refl
  blank_front (c ∷ gap) cs h = ap (filter (λ part. not (is_empty part))) (slice_split-cons_yes p c (gap ++ cs) h.0) ∙ blank_front gap cs h.1

  -- nothing, or what begins with one that passes
  abbrev pub Starts : List ℕ → Type 0
  Starts [] = Unit {0}
  Starts (c ∷ cs) = p c ≡ true

  -- the first part
  pub part_front : (c : ℕ) (w rest : List ℕ) → AllByRecursion (λ d. p d ≡ false) (c ∷ w) → Starts rest → parts ((c ∷ w) ++ rest) ≡ (c ∷ w) ∷ parts rest
  part_front c w [] none starts =
      ap parts (append-nil (c ∷ w)) ∙ ap (filter (λ part. not (is_empty part))) (slice_split_none p (c ∷ w) (All-from_recursion (λ d. p d ≡ false) (c ∷ w) none))
  part_front c w (d ∷ rest) none starts =
      ap (filter (λ part. not (is_empty part))) (slice_split_at p (c ∷ w) d rest (All-from_recursion (λ d. p d ≡ false) (c ∷ w) none) starts)
      ∙ ap (λ ps. (c ∷ w) ∷ ps) (sym (blank_front (d ∷ []) rest (starts, tt)))

-- ## Texts

-- the words that characters spell
abbrev pub spelled_words : List ℕ → List (List ℕ)
spelled_words cs = map encode_utf8_all (parts is_whitespace cs)

-- the characters behind a beginning of a text
behind_front : (front cs text : List ℕ) → encode_utf8_all cs ≡ encode_utf8_all front ++ text → (rest : List ℕ) × (cs ≡ front ++ rest) × (encode_utf8_all rest ≡ text)
behind_front [] cs text e = (cs, refl, e)
behind_front (c ∷ front) cs text e =
    let first = cons_from_encodes cs (encode_utf8_all front ++ text) c (e ∙ append_assoc (encode_utf8 c) (encode_utf8_all front) text) in
    let more = behind_front front first.0 text first.2 in
    (more.0, first.1 ∙ ap (λ (ds : List ℕ). c ∷ ds) more.1, more.2)

-- the bytes of a character
some_byte : (c : ℕ) (cs : List ℕ) → 0 < length (encode_utf8_all (c ∷ cs))
some_byte c cs = let n = length-append (encode_utf8 c) (encode_utf8_all cs) in let l = length-encode c in let b = len_utf8_bounds c in omega arith

-- what follows a word begins with white space
starts_blank : (cs text more : List ℕ) → encode_utf8_all cs ≡ text → EmptyOrStartsWithPassing is_whitespace text more → Starts is_whitespace cs
starts_blank [] text more e h = tt
starts_blank (c ∷ cs) text more e h =
    let first = h (subst (λ (t : List ℕ). 0 < length t) e (some_byte c cs)) in
    let same = cons_from_encodes (c ∷ cs) more first.0 (e ∙ first.2) in
    let is : c ≡ first.0 = cc in
    ap is_whitespace is ∙ first.1

-- a text of white space has no words
pub no_words : (cs text : List ℕ) → encode_utf8_all cs ≡ text → NoCharPasses is_not_whitespace text → spelled_words cs ≡ []
no_words cs text e h =
    let same : cs ≡ h.0 = encodes_same cs h.0 (e ∙ sym h.1) in
    ap spelled_words (same ∙ sym (append-nil h.0)) ∙ ap (map encode_utf8_all) (blank_front is_whitespace h.0 [] (none_other is_whitespace h.0 h.2))

-- characters that spell a word, and what follows it
first_part : (w rest word : List ℕ) → encode_utf8_all w ≡ word → 0 < length word → NonePass is_whitespace w → Starts is_whitespace rest → spelled_words (w ++ rest) ≡ word ∷ spelled_words rest
first_part [] rest word e some none starts = let no = ap length e in absurd (omega arith)
first_part (c ∷ w) rest word e some none starts =
    ap (map encode_utf8_all) (part_front is_whitespace c w rest (none_passes is_whitespace (c ∷ w) none) starts) ∙ ap (λ x. x ∷ spelled_words rest) e

-- a word is taken off the front of a text, with the white space before it
abbrev pub TakesWord : List ℕ → List ℕ → List ℕ → Type 0
TakesWord text word rest = (gap : List ℕ) × (text ≡ gap ++ (word ++ rest)) × (0 < length word) × NoCharPasses is_not_whitespace gap × NoCharPasses is_whitespace word
    × ((more : List ℕ) × EmptyOrStartsWithPassing is_whitespace rest more)

-- it is the first one, and the characters of the rest spell the others
pub first_word : (cs text word rest : List ℕ) → encode_utf8_all cs ≡ text → TakesWord text word rest → (ds : List ℕ) × (encode_utf8_all ds ≡ rest) × (spelled_words cs ≡ word ∷ spelled_words ds)
first_word cs text word rest e takes =
    let blank = takes.3 in
    let own = takes.4 in
    let whole : encode_utf8_all cs ≡ encode_utf8_all blank.0 ++ (word ++ rest) = e ∙ (takes.1 ∙ ap (λ (g : List ℕ). g ++ (word ++ rest)) (sym blank.1)) in
    let inner = behind_front blank.0 cs (word ++ rest) whole in
    let last = behind_front own.0 inner.0 rest (inner.2 ∙ ap (λ (w : List ℕ). w ++ rest) (sym own.1)) in
    let starts = starts_blank last.0 rest takes.5.0 last.2 takes.5.1 in (
      last.0,
      last.2,
      ap spelled_words (inner.1 ∙ ap (λ (x : List ℕ). blank.0 ++ x) last.1)
          ∙ (ap (map encode_utf8_all) (blank_front is_whitespace blank.0 (own.0 ++ last.0) (none_other is_whitespace blank.0 blank.2)) ∙ first_part own.0 last.0 word own.1 takes.2 own.2 starts),
    )

-- a text of one word
pub one_word : (cs text word rest : List ℕ) → encode_utf8_all cs ≡ text → TakesWord text word rest → NoCharPasses is_not_whitespace rest → spelled_words cs ≡ word ∷ []
one_word cs text word rest e takes blank = let first = first_word cs text word rest e takes in first.2 ∙ ap (λ ws. word ∷ ws) (no_words first.0 rest first.1 blank)

-- of two words and more
pub two_words : (cs text v middle w rest : List ℕ) → encode_utf8_all cs ≡ text → TakesWord text v middle → TakesWord middle w rest → (ds : List ℕ) × (encode_utf8_all ds ≡ rest) × (spelled_words cs ≡ v ∷ w ∷ spelled_words ds)
two_words cs text v middle w rest e first second =
    let one = first_word cs text v middle e first in
    let two = first_word one.0 middle w rest one.1 second in
    (two.0, two.1, one.2 ∙ ap (λ ws. v ∷ ws) two.2)

-- of two words
pub only_two : (cs text v middle w rest : List ℕ) → encode_utf8_all cs ≡ text → TakesWord text v middle → TakesWord middle w rest → NoCharPasses is_not_whitespace rest → spelled_words cs ≡ v ∷ w ∷ []
only_two cs text v middle w rest e first second blank =
    let two = two_words cs text v middle w rest e first second in two.2 ∙ ap (λ ws. v ∷ w ∷ ws) (no_words two.0 rest two.1 blank)

-- of three words and more
pub more_words : (cs text v middle w rest x end : List ℕ) → encode_utf8_all cs ≡ text → TakesWord text v middle → TakesWord middle w rest → TakesWord rest x end → are_no_pair (spelled_words cs) ≡ true
more_words cs text v middle w rest x end e first second third =
    let two = two_words cs text v middle w rest e first second in
    ap are_no_pair (two.2 ∙ ap (λ ws. v ∷ w ∷ ws) (first_word two.0 rest x end two.1 third).2)

-- of a comment
pub comment_words : (ws : List (List ℕ)) → are_no_pair (codes "#" ∷ ws) ≡ true
comment_words [] = refl
comment_words (w ∷ []) = refl
comment_words (w ∷ x ∷ ws) = refl

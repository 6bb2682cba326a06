-- The starts of texts, compared by vectors.
use Rattle.std.proofs.Common.{◌≡◌, ◌↔◌, ℕ, eqb, not, cond, Bool, true, false, ◌+◌, ◌-◌, ◌^◌, ◌%◌, ◌≤◌, ◌<◌, List, [], ◌∷◌, ◌++◌, length, length-append, length-drop, length-take, IsCharBoundary, IsUtf8, inl, inr, get_or, take, drop, map, w8, refl, sym, ap, ◌∙◌, subst, arith}
use Rattle.std.specs.Simd.Lanes.{zip2, mask_l, top}
use Rattle.std.proofs.lemmas.Bool.{cases_lt, eqb-true, eqb-false, eq-eqb}
use Rattle.std.proofs.lemmas.List.{drop-append-le, ext_get_or, get_or-take, nil_from_length, take-append-drop, take-append-le}
use Rattle.std.proofs.lemmas.Simd.{get_or-chunk, length-zip2, mask_l-mod, tops_compared}
use Rattle.std.proofs.lemmas.Str.{IsCharBoundary-from_take}
use Rattle.std.proofs.Math.Seq.{take-add, take-append_seam}
use Rattle.ptree.specs.Texts.{IsPrefixOf}

-- ## Bytes of two vectors

-- a bit of the mask is clear exactly if the bytes are equal
same_byte : (x y : ℕ) → (◌≡◌ {A = ℕ} (cond (not (eqb x y)) 1 0) 0) ↔ (x ≡ y)
same_byte x y = go (eqb x y) refl
  where
    go : (t : Bool) → eqb x y ≡ t → (◌≡◌ {A = ℕ} (cond (not t) 1 0) 0) ↔ (x ≡ y)
    go true e = (λ _. eqb-true x y e, λ _. refl)
    go false e = (λ q. absurd (omega arith), λ z. absurd (eqb-false x y e z))

-- all bits are clear exactly if all bytes are equal
same_bytes : (xs ys : List ℕ) → length xs ≡ length ys → (mask_l (zip2 (λ a b. not (eqb a b)) xs ys) ≡ 0) ↔ (xs ≡ ys)
same_bytes [] [] e = (λ _. refl, λ _. refl)
same_bytes [] (y ∷ ys) e = absurd (omega arith)
same_bytes (x ∷ xs) [] e = absurd (omega arith)
same_bytes (x ∷ xs) (y ∷ ys) e =
    let first = same_byte x y in
    let rest = same_bytes xs ys (omega arith) in (
      λ z. ap (λ b. b ∷ xs) (first.0 (omega arith)) ∙ ap (λ bs. y ∷ bs) (rest.0 (omega arith)),
      λ q. omega (arith, first.1 (ap (λ l. get_or l 0 0) q), rest.1 (ap (drop 1) q)),
    )

-- the mask of what differs is 0 exactly if all bytes are equal
pub same_by_mask : (xs ys : List ℕ) (n : ℕ) → length xs ≡ n → length ys ≡ n → n ≤ 64
    → (eqb (mask_l (map (top 7) (zip2 (λ a b. cond (not (eqb a b)) 255 0) xs ys)) % 2 ^ 64) 0 ≡ true) ↔ (xs ≡ ys)
same_by_mask xs ys n left right few =
    let differ = λ (a b : ℕ). not (eqb a b) in
    let alike : length xs ≡ length ys = omega (arith, left, right) in
    let small = mask_l-mod (zip2 differ xs ys) 64 (omega (arith, length-zip2 differ xs ys alike, left, few)) in
    let mask = ap (λ bs. mask_l bs % 2 ^ 64) (tops_compared w8 differ xs ys) ∙ small in
    (λ yes. (same_bytes xs ys alike).0 (sym mask ∙ eqb-true _ 0 yes), λ e. eq-eqb _ 0 (mask ∙ (same_bytes xs ys alike).1 e))

-- ## Prefixes

-- equal prefixes of two texts, joined
pub take_chunk : (n m : ℕ) (a b : List ℕ) → take n a ≡ take n b → take m (drop n a) ≡ take m (drop n b) → take (n + m) a ≡ take (n + m) b
take_chunk n m a b e f = take-add n m a ∙ (ap (λ z. z ++ take m (drop n a)) e ∙ (ap (λ z. take n b ++ z) f ∙ sym (take-add n m b)))

-- the same of four parts of 64 bytes
pub take_four_chunks : (n : ℕ) (a b : List ℕ) → take n a ≡ take n b → take 64 (drop n a) ≡ take 64 (drop n b) → take 64 (drop (n + 64) a) ≡ take 64 (drop (n + 64) b) → take 64 (drop (n + 128) a) ≡ take 64 (drop (n + 128) b)
    → take 64 (drop (n + 192) a) ≡ take 64 (drop (n + 192) b) → take (n + 256) a ≡ take (n + 256) b
take_four_chunks n a b same first second third fourth = upto (n + 192) (n + 256) (omega arith) (upto (n + 128) (n + 192) (omega arith) (upto (n + 64) (n + 128) (omega arith) (take_chunk n 64 a b same first) second) third) fourth
  where
    upto : (m k : ℕ) → m + 64 ≡ k → take m a ≡ take m b → take 64 (drop m a) ≡ take 64 (drop m b) → take k a ≡ take k b
    upto m k e f g = subst (λ z. take z a ≡ take z b) e (take_chunk m 64 a b f g)

-- a text begins with a prefix that its first bytes are
begins_from_take : (prefix text : List ℕ) → take (length prefix) text ≡ prefix → IsPrefixOf prefix text
begins_from_take prefix text e = (drop (length prefix) text, sym (take-append-drop (length prefix) text) ∙ ap (λ z. z ++ drop (length prefix) text) e)

-- the bytes at a place below the end of the prefix are the prefix's
pub begins_word : (prefix text : List ℕ) (p n : ℕ) → IsPrefixOf prefix text → p + n ≤ length prefix → take n (drop p text) ≡ take n (drop p prefix)
begins_word prefix text p n (rest, e) room =
    ap (λ z. take n (drop p z)) e
    ∙ (ap (take n) (drop-append-le p prefix rest (omega (arith, room))) ∙ take-append-le n (drop p prefix) rest (omega (arith, length-drop p prefix, room)))

-- two texts whose first bytes and whose bytes before the end of a prefix are equal have equal bytes
ends_bytes : (prefix text : List ℕ) (m n : ℕ) → length prefix ≤ m + n → take m text ≡ take m prefix → take n (drop (length prefix - n) text) ≡ take n (drop (length prefix - n) prefix)
    → (i : ℕ) → i < length prefix → get_or text i 0 ≡ get_or prefix i 0
ends_bytes prefix text m n high first last i there = elim (cases_lt i m) [
  | inl before ↦ sym (get_or-take m text i 0 before) ∙ (ap (λ z. get_or z i 0) first ∙ get_or-take m prefix i 0 before)
  | inr behind ↦
      let p = length prefix - n in
      let in_last : i - p < n = omega (arith, high, there, behind) in
      let is : p + (i - p) ≡ i = omega (arith, high, there, behind) in
      subst (λ z. get_or text z 0 ≡ get_or prefix z 0) is
      (sym (get_or-chunk p n text (i - p) 0 in_last) ∙ (ap (λ z. get_or z (i - p) 0) last ∙ get_or-chunk p n prefix (i - p) 0 in_last))
]

-- a text begins with a prefix whose first m bytes and last n bytes are there, if these are all
pub begins_from_ends : (prefix text : List ℕ) (m n : ℕ) → length prefix ≤ m + n → length prefix ≤ length text → take m text ≡ take m prefix
    → take n (drop (length prefix - n) text) ≡ take n (drop (length prefix - n) prefix) → IsPrefixOf prefix text
begins_from_ends prefix text m n high room first last =
    let w = length prefix in
    begins_from_take prefix text (ext_get_or 0 (take w text) prefix (omega (arith, length-take w text, room)) (λ i less.
    let there : i < w = omega (arith, length-take w text, less) in
    get_or-take w text i 0 there ∙ ends_bytes prefix text m n high first last i there))

-- a text begins with a prefix of no bytes
pub begins_none : (prefix text : List ℕ) → length prefix ≡ 0 → IsPrefixOf prefix text
begins_none prefix text e = (text, ap (λ z. z ++ text) (sym (nil_from_length prefix e)))

-- a character begins after a prefix
pub begins_boundary : (prefix text : List ℕ) → IsPrefixOf prefix text → IsUtf8 prefix → IsUtf8 text → IsCharBoundary text (length prefix)
begins_boundary prefix text (rest, e) small whole =
    IsCharBoundary-from_take text (length prefix) whole (omega (arith, ap length e, length-append prefix rest)) (subst IsUtf8 (sym (ap (take (length prefix)) e ∙ take-append_seam prefix rest)) small)

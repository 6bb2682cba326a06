-- The keys of names, and their order.
use Rattle.std.specs.Cmp.{nat_cmp_is}
use Rattle.std.specs.Cmp.Lexicographic.{slice_cmp}
use Rattle.std.specs.Ordering.{nat_cmp, ordering_then, ordering_reverse, is_eq}
use Rattle.std.specs.Str.{bytes_eq}
use Rattle.std.specs.declared.cmp.Ordering.TheVariants.{Less, Equal, Greater}
use Rattle.std.proofs.Common.{◌≡◌, ◌≢◌, ◌⊎◌, ℕ, zero, suc, ◌+◌, ◌*◌, ◌%◌, ◌^◌, ◌<◌, ◌≤◌, true, min, List, [], ◌∷◌, length, get_or, refl, sym, ap, ◌∙◌, inl, inr, add-one, arith}
use Rattle.std.proofs.Math.Nat.{pow-suc, one-le-pow, pow-le-pow_right, mul-le-mul_right}
use Rattle.std.proofs.lemmas.Bool.{cases_order}
use Rattle.std.proofs.lemmas.Cmp.{nat_list_cmp_total}
use Rattle.std.proofs.lemmas.Map.Text.{is_eq-slice_cmp}
use Rattle.std.proofs.lemmas.Nat.{mul-add-lt, same_from_place}
use Rattle.ptree_trees.specs.CutName.{AreBytes, front_number, name_key}

-- so also behind the first
rest_bytes : (x : ℕ) (xs : List ℕ) → AreBytes (x ∷ xs) → AreBytes xs
rest_bytes x xs h i = h (suc i)

-- ## Making a key

-- the first k bytes make a number of k digits
front_fits : (k : ℕ) (xs : List ℕ) → AreBytes xs → front_number k xs < 256 ^ k
front_fits zero xs h = omega arith
front_fits (suc k) [] h = omega (arith, one-le-pow (suc k) 256 (omega arith))
front_fits (suc k) (x ∷ xs) h =
    let most = mul-add-lt x (256 ^ k) (front_number k xs) 256 (h 0) (front_fits k xs (rest_bytes x xs h)) in
    omega (arith, most, pow-suc 256 k)

-- the first seven fit in 56 bits
pub front_low : (k : ℕ) (xs : List ℕ) → AreBytes xs → k ≤ 7 → front_number k xs < 72057594037927936
front_low k xs h few =
    let most : 256 ^ k ≤ 256 ^ 7 = pow-le-pow_right (omega arith) few in
    let fits = front_fits k xs h in
    omega (arith, most, fits)

-- one byte more is one digit more
front_suc : (i : ℕ) (xs : List ℕ) → front_number (suc i) xs ≡ front_number i xs * 256 + get_or xs i 0
front_suc zero [] = refl
front_suc zero (x ∷ xs) = omega arith
front_suc (suc i) [] = refl
front_suc (suc i) (x ∷ xs) =
    let digit : x * 256 ^ suc i ≡ x * (256 ^ i * 256) = ap (λ z. x * z) (pow-suc 256 i) in
    omega (arith, digit, front_suc i xs)

-- so also as a loop counts
pub front_step : (i : ℕ) (xs : List ℕ) → front_number (i + 1) xs ≡ front_number i xs * 256 + get_or xs i 0
front_step i xs = ap (λ z. front_number z xs) (add-one i) ∙ front_suc i xs

-- ## Comparing keys

-- a lesser number of front bytes is that of a lesser name
front_less : (k : ℕ) (xs ys : List ℕ) → AreBytes xs → AreBytes ys → front_number k xs < front_number k ys → slice_cmp nat_cmp xs ys ≡ Less
front_less zero xs ys a b h = absurd (omega arith)
front_less (suc k) [] [] a b h = absurd (omega arith)
front_less (suc k) [] (y ∷ ys) a b h = refl
front_less (suc k) (x ∷ xs) [] a b h = absurd (omega arith)
front_less (suc k) (x ∷ xs) (y ∷ ys) a b h = at (cases_order x y) (front_less k xs ys (rest_bytes x xs a) (rest_bytes y ys b)) where
  low : front_number k ys < 256 ^ k
  low = front_fits k ys (rest_bytes y ys b)

  at : (x ≡ y) ⊎ ((x < y) ⊎ (y < x)) → (front_number k xs < front_number k ys → slice_cmp nat_cmp xs ys ≡ Less) → ordering_then (nat_cmp x y) (slice_cmp nat_cmp xs ys) ≡ Less
  at (inl same) more =
      let digit : x * 256 ^ k ≡ y * 256 ^ k = ap (λ z. z * 256 ^ k) same in
      ap (λ o. ordering_then o (slice_cmp nat_cmp xs ys)) (sym (nat_cmp_is x y Equal same)) ∙ more (omega (arith, h, digit))
  at (inr (inl below)) more = ap (λ o. ordering_then o (slice_cmp nat_cmp xs ys)) (sym (nat_cmp_is x y Less below))
  at (inr (inr above)) more =
      let high : (1 + y) * 256 ^ k ≤ x * 256 ^ k = mul-le-mul_right (256 ^ k) (omega arith) in
      absurd (omega (arith, h, high, low))

-- where the front bytes are the same, and the names are counted up to one byte more, the shorter one
-- is the lesser
front_shorter : (k : ℕ) (xs ys : List ℕ) → AreBytes xs → AreBytes ys → front_number k xs ≡ front_number k ys → min (length xs) (suc k) < min (length ys) (suc k) → slice_cmp nat_cmp xs ys ≡ Less
front_shorter k [] [] a b h l = absurd (omega (arith, l))
front_shorter k [] (y ∷ ys) a b h l = refl
front_shorter k (x ∷ xs) [] a b h l = absurd (omega (arith, l))
front_shorter zero (x ∷ xs) (y ∷ ys) a b h l = absurd (omega (arith, l))
front_shorter (suc k) (x ∷ xs) (y ∷ ys) a b h l =
    let left = rest_bytes x xs a in
    let right = rest_bytes y ys b in
    let same = same_from_place x (front_number k xs) y (front_number k ys) (256 ^ k) (front_fits k xs left) (front_fits k ys right) h in
    ap (λ o. ordering_then o (slice_cmp nat_cmp xs ys)) (sym (nat_cmp_is x y Equal same.0)) ∙ front_shorter k xs ys left right same.1 (omega (arith, l))

-- and of the same length, they are the same
front_same : (k : ℕ) (xs ys : List ℕ) → AreBytes xs → AreBytes ys → front_number k xs ≡ front_number k ys → length xs ≡ length ys → length xs ≤ k → slice_cmp nat_cmp xs ys ≡ Equal
front_same k [] [] a b h l few = refl
front_same k [] (y ∷ ys) a b h l few = absurd (omega (arith, l))
front_same k (x ∷ xs) [] a b h l few = absurd (omega (arith, l))
front_same zero (x ∷ xs) (y ∷ ys) a b h l few = absurd (omega (arith, few))
front_same (suc k) (x ∷ xs) (y ∷ ys) a b h l few =
    let left = rest_bytes x xs a in
    let right = rest_bytes y ys b in
    let same = same_from_place x (front_number k xs) y (front_number k ys) (256 ^ k) (front_fits k xs left) (front_fits k ys right) h in
    ap (λ o. ordering_then o (slice_cmp nat_cmp xs ys)) (sym (nat_cmp_is x y Equal same.0)) ∙ front_same k xs ys left right same.1 (omega (arith, l)) (omega (arith, few))

-- a lesser key is that of a lesser name
pub key_less : (xs ys : List ℕ) → AreBytes xs → AreBytes ys → name_key xs < name_key ys → slice_cmp nat_cmp xs ys ≡ Less
key_less xs ys a b h = elim (cases_order (front_number 7 xs) (front_number 7 ys)) [
  | inl same ↦ front_shorter 7 xs ys a b same (omega (arith, h, same))
  | inr (inl below) ↦ front_less 7 xs ys a b below
  | inr (inr above) ↦ absurd (omega (arith, h, above))
]

-- names with one key that are no longer than it says are the same
pub key_same : (xs ys : List ℕ) → AreBytes xs → AreBytes ys → name_key xs ≡ name_key ys → name_key xs % 256 < 8 → slice_cmp nat_cmp xs ys ≡ Equal
key_same xs ys a b h short = front_same 7 xs ys a b (omega (arith, h)) (omega (arith, h, short)) (omega (arith, short))

-- where the keys differ, their order is that of the names
pub key_cmp : (xs ys : List ℕ) → AreBytes xs → AreBytes ys → name_key xs ≢ name_key ys → nat_cmp (name_key xs) (name_key ys) ≡ slice_cmp nat_cmp xs ys
key_cmp xs ys a b h = at (cases_order (name_key xs) (name_key ys)) where
  at : (name_key xs ≡ name_key ys) ⊎ ((name_key xs < name_key ys) ⊎ (name_key ys < name_key xs)) → nat_cmp (name_key xs) (name_key ys) ≡ slice_cmp nat_cmp xs ys
  at (inl same) = absurd (h same)
  at (inr (inl below)) = sym (nat_cmp_is (name_key xs) (name_key ys) Less below) ∙ sym (key_less xs ys a b below)
  at (inr (inr above)) =
      sym (nat_cmp_is (name_key xs) (name_key ys) Greater above) ∙ sym (nat_list_cmp_total.antisymm xs ys ∙ ap ordering_reverse (key_less ys xs b a above))

-- equal keys of short names are those of one name
pub key_equal : (xs ys : List ℕ) → AreBytes xs → AreBytes ys → name_key xs ≡ name_key ys → name_key xs % 256 < 8 → bytes_eq xs ys ≡ true
key_equal xs ys a b h short = sym (is_eq-slice_cmp xs ys) ∙ ap is_eq (key_same xs ys a b h short)

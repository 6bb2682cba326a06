-- Numbers in decimal, two digits at a time from the last.
use Rattle.std.proofs.Common.{◌≡◌, ◌∙◌, sym, ap, refl, ℕ, zero, suc, ℤ, pos, negsuc, ◌+◌, ◌-◌, ◌*◌, ◌/◌, ◌%◌, ◌^◌, ◌<◌, ◌≤◌, Bool, true, false, ◌&&◌, T, true≢false, eqb, eqb→eq, eq-zero-or-pos, inl, inr, List, [], ◌∷◌, ◌++◌, length, get_or, drop, set, decimal, append_assoc, arith, length-append, length-set, IsUtf8, FitsSigned, w64, int_le, unsigned_abs}
use Rattle.std.specs.Fmt.{signed_decimal}
use Rattle.std.proofs.lemmas.Fmt.{decimal_digit, decimal_step, IsAscii-decimal, IsAscii-signed}
use Rattle.std.proofs.lemmas.List.{drop-set, set_comm}
use Rattle.std.proofs.lemmas.Str.{IsUtf8-from_ascii}
use lib.Dec.{leb-zero}
use lib.Ieee.Fits.{and_l, and_r}
use Rattle.ptree.specs.declared.value.text.TheConstants.{PAIRS}

-- a number below 100 as two digits
abbrev pub pair : ℕ → List ℕ
pair p = (48 + p / 10) ∷ (48 + p % 10) ∷ []

-- whether the table has the two digits of each number below n
abbrev has_pairs : ℕ → Bool
has_pairs zero = true
has_pairs (suc n) = (eqb (get_or PAIRS (n * 2) 0) (48 + n / 10) && eqb (get_or PAIRS (n * 2 + 1) 0) (48 + n % 10)) && has_pairs n

-- the table's digits of a number below n
pairs_below : (n p : ℕ) → T (has_pairs n) → p < n → (get_or PAIRS (p * 2) 0 ≡ 48 + p / 10) × (get_or PAIRS (p * 2 + 1) 0 ≡ 48 + p % 10)
pairs_below zero p t h = absurd (omega arith)
pairs_below (suc n) p t h =
    elim (eq-zero-or-pos (n - p)) [
      | inl z ↦ let e : p ≡ n = omega arith in let both = and_l _ (has_pairs n) t in rw e (eqb→eq _ _ (and_l _ _ both), eqb→eq _ _ (and_r _ _ both))
      | inr g ↦ pairs_below n p (and_r _ (has_pairs n) t) (omega arith)
    ]

-- the table's digits of a number below 100
pub PAIRS_at : (p : ℕ) → p < 100 → (get_or PAIRS (p * 2) 0 ≡ 48 + p / 10) × (get_or PAIRS (p * 2 + 1) 0 ≡ 48 + p % 10)
PAIRS_at p h = pairs_below 100 p tt h

-- two bytes were written
pub pair_written : (room : List ℕ) (end a b : ℕ) → 2 ≤ end → end ≤ length room → drop (end - 2) (set (set room (end - 2) a) (end - 1) b) ≡ a ∷ b ∷ drop end room
pair_written room end a b lo hi =
    let between : end - 2 + 1 ≡ end - 1 = omega arith in
    let behind : end - 1 + 1 ≡ end = omega arith in
    let long = length-set room (end - 1) b in
    rw (set_comm room (end - 2) (end - 1) a b (λ e. omega arith), drop-set (set room (end - 1) b) (end - 2) a (omega (arith, long)), between, drop-set room (end - 1) b (omega arith), behind)

-- a number from 10 to 99 in decimal
pub two_digits : (n : ℕ) → 10 ≤ n → n < 100 → decimal n ≡ pair n
two_digits n lo hi = rw (decimal_step n lo (omega arith), decimal_digit (n / 10) (omega arith))

-- the last two digits of a number from 100 on
pub last_digits : (n : ℕ) → 100 ≤ n → n < 2 ^ 64 → decimal n ≡ decimal (n / 100) ++ pair (n % 100)
last_digits n lo hi =
    let hundreds : n / 10 / 10 ≡ n / 100 = omega arith in
    let tens : n / 10 % 10 ≡ n % 100 / 10 = omega arith in
    let ones : n % 10 ≡ n % 100 % 10 = omega arith in
    rw (decimal_step n (omega arith) hi, decimal_step (n / 10) (omega arith) (omega arith), append_assoc, hundreds, tens, ← ones)

-- how many digits a number has
pub length-last_digits : (n : ℕ) → 100 ≤ n → n < 2 ^ 64 → length (decimal n) ≡ length (decimal (n / 100)) + 2
length-last_digits n lo hi = ap length (last_digits n lo hi) ∙ length-append (decimal (n / 100)) (pair (n % 100))

pub length-two_digits : (n : ℕ) → 10 ≤ n → n < 100 → length (decimal n) ≡ 2
length-two_digits n lo hi = ap length (two_digits n lo hi)

pub length-digit : (n : ℕ) → n < 10 → length (decimal n) ≡ 1
length-digit n lo = ap length (decimal_digit n lo)

pub ruleset digit_counts = (length-last_digits, length-two_digits, length-digit)

-- two digits more were written
pub two_digits_more : (n left : ℕ) (written more : List ℕ) → 100 ≤ left → left < 2 ^ 64 → decimal n ≡ decimal left ++ written → more ≡ pair (left % 100) ++ written
    → decimal n ≡ decimal (left / 100) ++ more
two_digits_more n left written more lo hi e w =
    e ∙ ap (λ ds. ds ++ written) (last_digits left lo hi) ∙ append_assoc (decimal (left / 100)) (pair (left % 100)) written ∙ ap (λ ds. decimal (left / 100) ++ ds) (sym w)

-- the first two digits were written
pub first_two : (n left : ℕ) (written all : List ℕ) → 10 ≤ left → left < 100 → decimal n ≡ decimal left ++ written → all ≡ pair left ++ written → all ≡ decimal n
first_two n left written all lo hi e w = w ∙ sym (e ∙ ap (λ ds. ds ++ written) (two_digits left lo hi))

-- the first digit was written
pub first_digit : (n left start : ℕ) (room : List ℕ) → left < 10 → 1 ≤ start → start ≤ length room → decimal n ≡ decimal left ++ drop start room
    → drop (start - 1) (set room (start - 1) (48 + left)) ≡ decimal n
first_digit n left start room lo some within e =
    let at : start - 1 + 1 ≡ start = omega arith in
    drop-set room (start - 1) (48 + left) (omega arith) ∙ ap (λ i. (48 + left) ∷ drop i room) at ∙ ap (λ ds. ds ++ drop start room) (sym (decimal_digit left lo)) ∙ sym e

-- a number of 64 bits in decimal is UTF-8
pub IsUtf8-decimal : (n : ℕ) → n < 2 ^ 64 → IsUtf8 (decimal n)
IsUtf8-decimal n h = IsUtf8-from_ascii (decimal n) (IsAscii-decimal n h)

-- an integer of 64 bits in decimal is UTF-8
pub IsUtf8-signed : (z : ℤ) → FitsSigned w64 z → IsUtf8 (signed_decimal z)
IsUtf8-signed (pos n) h = let fits = h.sfits in IsUtf8-decimal n (omega arith)
IsUtf8-signed (negsuc n) h = IsUtf8-from_ascii (signed_decimal (negsuc n)) (IsAscii-signed (negsuc n) h.sfits)

-- a negative number is `-` and its absolute value
pub minus_first : (z : ℤ) → int_le (pos 0) z ≡ false → 45 ∷ decimal (unsigned_abs z) ≡ signed_decimal z
minus_first (pos n) e = absurd (true≢false (sym (leb-zero n) ∙ e))
minus_first (negsuc n) e = refl

-- Bytes in decimal.
use Rattle.std.proofs.Common.{◌≡◌, ℕ, ◌+◌, ◌/◌, ◌%◌, ◌<◌, ◌≤◌, List, [], ◌∷◌, ◌++◌, length, map, take, get_or, append_assoc, ap, sym, ◌∙◌, arith, length-append}
use Rattle.std.specs.List.{join_with_byte}
use Rattle.std.specs.Prelude.{decimal, flat_map}
use Rattle.std.proofs.lemmas.List.{append-nil, take_all, take_more, flat_map_more}
use Rattle.ptree.specs.Style.{code}
use Rattle.std.proofs.lemmas.Fmt.{decimal_digit, decimal_step, length-decimal-le}

-- a number below 10 is one digit
pub byte_digit : (n : ℕ) → n < 10 → decimal n ≡ (48 + n % 10) ∷ []
byte_digit n h = let e : n ≡ n % 10 = omega arith in decimal_digit n h ∙ ap (λ d. (48 + d) ∷ []) e

-- a byte from 10 on is its tenth in decimal and one digit
pub byte_step : (n : ℕ) → 10 ≤ n → n < 256 → decimal n ≡ decimal (n / 10) ++ (48 + n % 10) ∷ []
byte_step n h k = decimal_step n h (omega arith)

-- a number below 10 has one digit
pub length-byte_digit : (n : ℕ) → n < 10 → length (decimal n) ≡ 1
length-byte_digit n h = ap length (byte_digit n h)

-- a byte from 10 on has one digit more than its tenth
pub length-byte_step : (n : ℕ) → 10 ≤ n → n < 256 → length (decimal n) ≡ length (decimal (n / 10)) + 1
length-byte_step n h k = ap length (byte_step n h k) ∙ length-append (decimal (n / 10)) ((48 + n % 10) ∷ [])

-- a byte has at most three digits
pub length-byte-le : (n : ℕ) → n < 256 → length (decimal n) ≤ 3
length-byte-le n h = length-decimal-le 3 n (omega arith) (omega arith) (omega arith)

-- the parameters of a code, the first one apart
pub join-decimals : (first : ℕ) (others : List ℕ) → join_with_byte 59 (map decimal (first ∷ others)) ≡ decimal first ++ flat_map (λ n. 59 ∷ decimal n) others
join-decimals first [] = sym (append-nil (decimal first))
join-decimals first (n ∷ others) = ap (λ bs. decimal first ++ 59 ∷ bs) (join-decimals n others)

-- one number more after those so far
pub more_numbers : (now base xs : List ℕ) (i : ℕ) → i < length xs → now ≡ base ++ flat_map (λ n. 59 ∷ decimal n) (take i xs)
    → (now ++ 59 ∷ []) ++ decimal (get_or xs i 0) ≡ base ++ flat_map (λ n. 59 ∷ decimal n) (take (i + 1) xs)
more_numbers now base xs i h e =
    append_assoc now (59 ∷ []) (decimal (get_or xs i 0)) ∙ ap (λ bs. bs ++ 59 ∷ decimal (get_or xs i 0)) e
    ∙ flat_map_more (λ n. 59 ∷ decimal n) base (take i xs) (get_or xs i 0) ∙ ap (λ ns. base ++ flat_map (λ n. 59 ∷ decimal n) ns) (sym (take_more xs i 0 h))

-- a code, piece by piece
pub code_parts : (old a b c d others : List ℕ) (first i : ℕ) → a ≡ old ++ 27 ∷ [] → b ≡ a ++ 91 ∷ [] → c ≡ b ++ decimal first
    → d ≡ c ++ flat_map (λ n. 59 ∷ decimal n) (take i others) → length others ≤ i → d ++ 109 ∷ [] ≡ old ++ code (first ∷ others)
code_parts old a b c d others first i e f g h l =
    ap (λ bs. bs ++ 109 ∷ []) (h ∙ ap (λ bs. c ++ flat_map (λ n. 59 ∷ decimal n) bs) (take_all i others l)
    ∙ ap (λ bs. bs ++ flat_map (λ n. 59 ∷ decimal n) others) (g ∙ ap (λ bs. bs ++ decimal first) (f ∙ ap (λ bs. bs ++ 91 ∷ []) e)))
    ∙ pieces old (decimal first) (flat_map (λ n. 59 ∷ decimal n) others) ∙ ap (λ bs. old ++ 27 ∷ 91 ∷ (bs ++ 109 ∷ [])) (sym (join-decimals first others))
  where
    pieces : (old x y : List ℕ) → ((((old ++ 27 ∷ []) ++ 91 ∷ []) ++ x) ++ y) ++ 109 ∷ [] ≡ old ++ 27 ∷ 91 ∷ ((x ++ y) ++ 109 ∷ [])
    pieces old x y = simp append_assoc

pub ruleset byte_digits = (byte_digit, byte_step, length-byte_digit, length-byte_step)

pub ruleset byte_lengths = (length-byte-le)

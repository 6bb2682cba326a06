-- The bytes of codes: ASCII, and no line feed.
use Rattle.std.proofs.Common.{◌≡◌, ℕ, zero, suc, ◌+◌, ◌/◌, ◌%◌, ◌<◌, Bool, true, false, List, [], ◌∷◌, ◌++◌, map, arith, subst, sym, refl}
use Rattle.std.specs.Prelude.{All, nat_lt, ◌==◌, if◌then◌else◌, decimal}
use Rattle.std.specs.Fmt.{digits, digits_onto, digit_glyph}
use Rattle.std.specs.List.{join_with_byte}
use Rattle.std.proofs.lemmas.List.Elements.{All-nil, All-cons, All-append}
use Rattle.ptree.specs.Codes.{joined_codes}
use Rattle.ptree.specs.Style.{StyleValue, code, start_codes}
use Rattle.ptree.proofs.Styles.CodeLists.{parameters_of}

-- an ASCII byte greater than the line feed
abbrev pub IsCodeByte : ℕ → Type 0
IsCodeByte b = (b < 128) × (10 < b)

-- all bytes are such
abbrev pub AreCodeBytes : List ℕ → Type 0
AreCodeBytes bs = All IsCodeByte bs

-- the empty list has only bytes of codes
empty : AreCodeBytes []
empty = All-nil IsCodeByte

-- so has one with a byte of codes at the start
one_more : (b : ℕ) (bs : List ℕ) → IsCodeByte b → AreCodeBytes bs → AreCodeBytes (b ∷ bs)
one_more b bs h k = All-cons IsCodeByte b bs h k

-- so have two such lists, as one
both : (xs ys : List ℕ) → AreCodeBytes xs → AreCodeBytes ys → AreCodeBytes (xs ++ ys)
both xs ys h k = All-append IsCodeByte xs ys h k

-- a decimal digit is a byte of codes
digit_is : (d : ℕ) (b : Bool) → nat_lt d 10 ≡ b → d < 10 → IsCodeByte (if b then 48 + d else 87 + d)
digit_is d true e h = (omega arith, omega arith)
digit_is d false e h = (omega arith, omega arith)

-- digits, followed by more of them
digits_are : (k n : ℕ) (rest : List ℕ) → AreCodeBytes rest → AreCodeBytes (digits_onto k 10 false n rest)
digits_are zero n rest h = h
digits_are (suc k) n rest h =
    let digit = one_more (digit_glyph false (n % 10)) rest (digit_is (n % 10) (nat_lt (n % 10) 10) refl (omega arith)) h in
    elim (n / 10 == 0) as (λ b. AreCodeBytes (if b then digit_glyph false (n % 10) ∷ rest else digits_onto k 10 false (n / 10) (digit_glyph false (n % 10) ∷ rest))) [
      | true ↦ digit
      | false ↦ digits_are k (n / 10) (digit_glyph false (n % 10) ∷ rest) digit
    ]

-- the digits of a number are bytes of codes
decimal_is : (n : ℕ) → AreCodeBytes (decimal n)
unfolding digits
decimal_is n = digits_are 64 n [] empty

-- so are parameters, with the bytes between them
parameters_are : (ns : List ℕ) → AreCodeBytes (join_with_byte 59 (map decimal ns))
parameters_are [] = empty
parameters_are (n ∷ []) = decimal_is n
parameters_are (n ∷ m ∷ ns) = both (decimal n) _ (decimal_is n) (one_more 59 _ (omega arith, omega arith) (parameters_are (m ∷ ns)))

-- so is a code
code_is : (ns : List ℕ) → AreCodeBytes (code ns)
code_is ns =
    let last = one_more 109 [] (omega arith, omega arith) empty in
    let all = both (join_with_byte 59 (map decimal ns)) (109 ∷ []) (parameters_are ns) last in
    one_more 27 (91 ∷ (join_with_byte 59 (map decimal ns) ++ 109 ∷ [])) (omega arith, omega arith) (one_more 91 (join_with_byte 59 (map decimal ns) ++ 109 ∷ []) (omega arith, omega arith) all)

-- so are codes
codes_are : (pss : List (List ℕ)) → AreCodeBytes (joined_codes (map code pss))
codes_are [] = empty
codes_are (ps ∷ pss) = both (code ps) _ (code_is ps) (codes_are pss)

-- the codes before a painted text are such bytes
pub start_codes_are_code_bytes : (style : StyleValue) → AreCodeBytes (start_codes style)
start_codes_are_code_bytes style =
    let h = parameters_of style in
    subst (λ cs. AreCodeBytes (joined_codes cs)) (sym h.1) (codes_are h.0)

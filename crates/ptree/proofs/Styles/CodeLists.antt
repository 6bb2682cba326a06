-- Codes, one after the other.
use Rattle.std.proofs.Common.{◌≡◌, ℕ, ◌+◌, ◌<◌, ◌≤◌, Bool, true, List, [], ◌∷◌, ◌++◌, length, map, take, set, Option, Some, None, refl, ap, sym, ◌∙◌, append_assoc, arith}
use Rattle.std.specs.Prelude.{filter, option_map, option_to_list, option_and_then}
use Rattle.std.proofs.lemmas.List.{append-nil, length-set, map-append}
use Rattle.std.proofs.lemmas.Fmt.{decimal_digit}
use Rattle.std.proofs.lemmas.Grind.{flat_map-append, take-set_at}
use Rattle.std.proofs.lemmas.List.Elements.{filter-append}
use Rattle.std.proofs.lemmas.Simd.{map-map}
use Rattle.ptree.specs.Codes.{joined_codes}
use Rattle.ptree.specs.declared.style.tone.Side.{Side}
use Rattle.ptree.specs.declared.style.tone.Side.TheVariants.{Foreground, Background}
use Rattle.ptree.specs.Color.{ColorValue, color_parameters}
use Rattle.ptree.specs.Style.{StyleValue, code, flags, flag_codes, side_codes, style_codes, start_codes, reset_after, end_codes}

-- the codes of two lists of flags are those of the first and those of the second
flag_codes-append : (xs ys : List (Bool × ℕ)) → joined_codes (flag_codes (xs ++ ys)) ≡ joined_codes (flag_codes xs) ++ joined_codes (flag_codes ys)
flag_codes-append xs ys =
    ap (λ fs. joined_codes (map (λ flag. code (flag.1 ∷ [])) fs)) (filter-append (λ flag. flag.0) xs ys)
    ∙ ap joined_codes (map-append (λ flag. code (flag.1 ∷ [])) _ _) ∙ flat_map-append (λ c. c) (flag_codes xs) (flag_codes ys)

-- the codes of one flag more
pub flag_more : (base a b : List ℕ) (fs : List (Bool × ℕ)) (f : Bool × ℕ) → b ≡ a ++ joined_codes (flag_codes (f ∷ [])) → a ≡ base ++ joined_codes (flag_codes fs)
    → b ≡ base ++ joined_codes (flag_codes (fs ++ f ∷ []))
flag_more base a b fs f e d =
    e ∙ ap (λ bs. bs ++ joined_codes (flag_codes (f ∷ []))) d ∙ append_assoc base _ _ ∙ ap (λ bs. base ++ bs) (sym (flag_codes-append fs (f ∷ [])))

-- the code of a flag that is set, byte by byte
pub flag_set : (bytes : List ℕ) (at digit : ℕ) (b : Bool) → b ≡ true → digit < 10 → at + 4 ≤ length bytes
    → take (at + 4) (set (set (set (set bytes at 27) (at + 1) 91) (at + 2) (48 + digit)) (at + 3) 109) ≡ take at bytes ++ joined_codes (flag_codes ((b, digit) ∷ []))
flag_set bytes at digit b t small room =
    let one = set bytes at 27 in
    let two = set one (at + 1) 91 in
    let three = set two (at + 2) (48 + digit) in
    let e1 : length one ≡ length bytes = length-set bytes at 27 in
    let e2 : length two ≡ length one = length-set one (at + 1) 91 in
    let e3 : length three ≡ length two = length-set two (at + 2) (48 + digit) in
    take-set_at three (at + 3) (at + 4) 109 (omega arith) (omega (arith, e1, e2, e3))
    ∙ ap (λ bs. bs ++ 109 ∷ []) (take-set_at two (at + 2) (at + 3) (48 + digit) (omega arith) (omega (arith, e1, e2))
    ∙ ap (λ bs. bs ++ (48 + digit) ∷ []) (take-set_at one (at + 1) (at + 2) 91 (omega arith) (omega (arith, e1))
    ∙ ap (λ bs. bs ++ 91 ∷ []) (take-set_at bytes at (at + 1) 27 (omega arith) (omega arith))))
    ∙ pieces (take at bytes) (48 + digit)
    ∙ ap (λ bs. take at bytes ++ 27 ∷ 91 ∷ (bs ++ 109 ∷ [])) (sym (decimal_digit digit small))
    ∙ ap (λ bs. take at bytes ++ bs) (sym (append-nil (code (digit ∷ [])))) ∙ ap (λ is_set. take at bytes ++ joined_codes (flag_codes ((is_set, digit) ∷ []))) (sym t)
  where
    pieces : (old : List ℕ) (d : ℕ) → (((old ++ 27 ∷ []) ++ 91 ∷ []) ++ d ∷ []) ++ 109 ∷ [] ≡ old ++ 27 ∷ 91 ∷ d ∷ 109 ∷ []
    pieces old d = simp append_assoc

-- the codes before a painted text, piece by piece
pub start_codes_are : (style : StyleValue) → start_codes style ≡ (joined_codes (flag_codes (flags style)) ++ joined_codes (side_codes style.foreground Foreground)) ++ joined_codes (side_codes style.background Background)
unfolding style_codes
start_codes_are style =
    flat_map-append (λ c. c) (flag_codes (flags style) ++ side_codes style.foreground Foreground) (side_codes style.background Background)
    ∙ ap (λ bs. bs ++ joined_codes (side_codes style.background Background)) (flat_map-append (λ c. c) (flag_codes (flags style)) (side_codes style.foreground Foreground))

-- the code of the parameters that there may be, as a list
one_code : (o : Option (List ℕ)) → option_to_list (option_map code o) ≡ map code (option_to_list o)
one_code None = refl
one_code (Some ns) = refl

-- the codes of a side are the code of the colour's parameters, if it has some
side_code : (color : Option ColorValue) (side : Side) → side_codes color side ≡ map code (option_to_list (option_and_then (λ c. color_parameters c side) color))
side_code None side = refl
side_code (Some color) side = one_code (color_parameters color side)

-- each code of a style has some parameters
pub parameters_of : (style : StyleValue) → (pss : List (List ℕ)) × (style_codes style ≡ map code pss)
unfolding style_codes
parameters_of style =
    let set = filter (λ (flag : Bool × ℕ). flag.0) (flags style) in
    let one = map (λ (flag : Bool × ℕ). flag.1 ∷ []) set in
    let start = option_to_list (option_and_then (λ c. color_parameters c Foreground) style.foreground) in
    let end = option_to_list (option_and_then (λ c. color_parameters c Background) style.background) in (
      (one ++ start) ++ end,
      ap (λ cs. (cs ++ side_codes style.foreground Foreground) ++ side_codes style.background Background) (sym (map-map code (λ (flag : Bool × ℕ). flag.1 ∷ []) set))
          ∙ ap (λ cs. (map code one ++ cs) ++ side_codes style.background Background) (side_code style.foreground Foreground)
          ∙ ap (λ cs. (map code one ++ map code start) ++ cs) (side_code style.background Background)
          ∙ ap (λ cs. cs ++ map code end) (sym (map-append code one start)) ∙ sym (map-append code (one ++ start) end),
    )

-- the reset is the same after the codes as one text and as a list
reset_is : (pss : List (List ℕ)) → reset_after (joined_codes (map code pss)) ≡ reset_after (map code pss)
reset_is [] = refl
reset_is (ps ∷ pss) = refl

-- there is a reset exactly when there is a code
pub end_codes_are : (style : StyleValue) → reset_after (start_codes style) ≡ end_codes style
end_codes_are style =
    let h = parameters_of style in
    ap (λ cs. reset_after (joined_codes cs)) h.1 ∙ reset_is h.0 ∙ ap reset_after (sym h.1)

-- Blank lines, indents and labels.
use Rattle.trees.proofs.Common.{◌≡◌, ◌≢◌, ◌∙◌, ℕ, ◌+◌, ◌<◌, ◌&&◌, not, Bool, true, false, cond, eqb, Option, Some, None, List, [], ◌∷◌, ◌++◌, length, take, drop, map, lit<, refl, sym, ap, append_assoc, Bor, ◌↔◌, IsTrue, IfSome, MatchOption, unwrap_or, arith, list_all-append, encode_ascii, drop_at_char, both_ways, is_blank, IsUnit, begins_with, Form}
use Rattle.std.proofs.lemmas.Bool.{false≢true, and_parts, ne_eqb}
use Rattle.std.proofs.lemmas.List.{append_cancel_right, take-append-drop}
use Rattle.std.proofs.lemmas.List.Sums.{take_while-cons}
use Rattle.std.proofs.lemmas.Simd.{map-map}
use Rattle.std.specs.List.{AllByRecursion, list_all, take_while}
use Rattle.std.specs.Str.Pattern.{FindsCharPrefix, FindsTextSuffix, CutsPrefixes, IsTrimStartMatches, StripsSuffix}
use Rattle.trees.specs.Outlining.{is_filled, text_of_lines, tab, line_indent, text_or, labelled_lines}

-- ## Blank lines

-- all bytes are blanks and tabs if the test says so
blanks_pass : (bs : List ℕ) → AllByRecursion (λ b. is_blank b ≡ true) bs → list_all is_blank bs ≡ true
blanks_pass [] h = refl
blanks_pass (b ∷ bs) h = ap (λ (x : Bool). x && list_all is_blank bs) h.0 ∙ blanks_pass bs h.1

pass_blanks : (bs : List ℕ) → list_all is_blank bs ≡ true → AllByRecursion (λ b. is_blank b ≡ true) bs
pass_blanks [] h = tt
pass_blanks (b ∷ bs) h = let parts = and_parts (is_blank b) (list_all is_blank bs) h in (parts.0, pass_blanks bs parts.1)

-- a line that is not empty is blank if it is a unit
pub unit_blank : (line : List ℕ) (r : Bool) → eqb (length line) 0 ≡ false → (IsTrue r ↔ IsUnit line) → not r ≡ is_filled line
unit_blank [] r some unit = absurd (false≢true (sym some))
unit_blank (b ∷ line) r some unit =
    ap not (both_ways r (list_all is_blank (b ∷ line)) (λ e. blanks_pass (b ∷ line) (unit.0 e).1) (λ e. unit.1 (λ none. no none, pass_blanks (b ∷ line) e))) where
      no : b ∷ line ≡ [] → ⊥
      no none = cc

-- a part of blanks that is not empty is a unit
pub blank_part : (blanks unit : List ℕ) (m n : ℕ) → list_all is_blank blanks ≡ true → 0 < n → unit ≡ take m blanks → length unit + 0 ≡ n → IsUnit unit
blank_part blanks unit m n all some is long = (λ none. let empty = ap length none in absurd (omega (arith, empty, long, some)), pass_blanks unit (ap (list_all is_blank) is ∙ front.0)) where
  front : (list_all is_blank (take m blanks) ≡ true) × (list_all is_blank (drop m blanks) ≡ true)
  front = and_parts (list_all is_blank (take m blanks)) (list_all is_blank (drop m blanks)) (sym (list_all-append is_blank (take m blanks) (drop m blanks)) ∙ (ap (list_all is_blank) (take-append-drop m blanks) ∙ all))

-- ## Indents

-- what was cut off is blanks
cut_blanks : (ns s r : List ℕ) → CutsPrefixes (FindsCharPrefix 32) s ns r → (front : List ℕ) × AllByRecursion (λ b. eqb b 32 ≡ true) front × (s ≡ front ++ r)
cut_blanks [] s r h = ([], tt, sym h)
cut_blanks (n ∷ ns) s r h =
    let m : List ℕ = h.0 in
    let before = cut_blanks ns s m h.1 in
    let blank : m ≡ 32 ∷ drop n m = drop_at_char 32 m 0 n h.2 (lit< tt) in
    let parts : s ≡ (before.0 ++ 32 ∷ []) ++ r =
    before.2 ∙ (ap (λ (z : List ℕ). before.0 ++ z) (blank ∙ ap (λ (z : List ℕ). 32 ∷ z) (sym h.3)) ∙ sym (append_assoc before.0 (32 ∷ []) r)) in
    (before.0 ++ 32 ∷ [], more before.0 before.1, parts) where
      more : (front : List ℕ) → AllByRecursion (λ b. eqb b 32 ≡ true) front → AllByRecursion (λ b. eqb b 32 ≡ true) (front ++ 32 ∷ [])
      more [] h = (refl, tt)
      more (b ∷ front) h = (h.0, more front h.1)

-- where none is left to cut, the text does not begin with one
no_blank : (r : List ℕ) (o : Option ℕ) → FindsCharPrefix 32 r o → IfSome o (λ n. n ≡ 0) → (rest : List ℕ) → r ≢ 32 ∷ rest
no_blank r None found is_zero = λ rest e. found rest (e ∙ ap (λ (z : List ℕ). z ++ rest) (sym (encode_ascii 32 (lit< tt))))
no_blank r (Some n) found is_zero = λ rest e. let one : n ≡ 1 = found.ends in omega (arith, one, is_zero)

-- so these blanks are all before it
take_blanks : (front r : List ℕ) → AllByRecursion (λ b. eqb b 32 ≡ true) front → ((rest : List ℕ) → r ≢ 32 ∷ rest) → take_while (λ b. eqb b 32) (front ++ r) ≡ front
take_blanks [] [] h none = refl
take_blanks [] (b ∷ r) h none =
    take_while-cons (λ (c : ℕ). eqb c 32) b r ∙ ap (λ (x : Bool). cond x (b ∷ take_while (λ c. eqb c 32) r) []) (ne_eqb b 32 (λ e. none r (ap (λ (z : ℕ). z ∷ r) e)))
take_blanks (b ∷ front) r h none =
    take_while-cons (λ (c : ℕ). eqb c 32) b (front ++ r)
    ∙ (ap (λ (x : Bool). cond x (b ∷ take_while (λ c. eqb c 32) (front ++ r)) []) h.0 ∙ ap (λ (z : List ℕ). b ∷ z) (take_blanks front r h.1 none))

-- what is before the rest is what is left without that
pub stripped : (line r front : List ℕ) (o : Option (Bor (List ℕ))) (d : Bor (List ℕ)) → line ≡ front ++ r → MatchOption o (FindsTextSuffix r line None) (λ x. StripsSuffix (FindsTextSuffix r) line x.now)
    → (unwrap_or o d).now ≡ front
stripped line r front None d e none = absurd (none front e)
stripped line r front (Some x) d e found =
    append_cancel_right x.now front r (ap (λ (z : List ℕ). z ++ r) found.2 ∙ (sym found.1.1 ∙ e))

-- the indent of a line that begins with no tab
pub blanks_before : (line r : List ℕ) (o : Option (Bor (List ℕ))) (d : Bor (List ℕ)) → begins_with tab line ≡ false → IsTrimStartMatches (FindsCharPrefix 32) line r
    → MatchOption o (FindsTextSuffix r line None) (λ x. StripsSuffix (FindsTextSuffix r) line x.now) → (unwrap_or o d).now ≡ line_indent line
blanks_before line r o d other cut found =
    let parts = cut_blanks cut.0.0 line r cut.0.1 in
    let all = take_blanks parts.0 r parts.1 (no_blank r cut.1.0 cut.1.1 cut.1.2) in
    stripped line r parts.0 o d parts.2 found
    ∙ (sym all ∙ (ap (take_while (λ b. eqb b 32)) (sym parts.2) ∙ ap (λ (x : Bool). cond x tab (take_while (λ b. eqb b 32) line)) (sym other)))

-- the text of an option, or else the other one's
pub text_or_is : (o : Option (Bor (List ℕ))) (d : Bor (List ℕ)) → (unwrap_or o d).now ≡ text_or o d.now
text_or_is None d = refl
text_or_is (Some x) d = refl

-- ## Labels

-- the label's line and lines below it
pub labelled_some : (form : Form) (label : Bor (List ℕ)) (lines : List (Bor (List ℕ))) (old mid new : List ℕ) → old ≡ [] → mid ≡ old ++ ((form.bullet.now ++ label.now) ++ 10 ∷ [])
    → new ≡ mid ++ text_of_lines (map (λ l. form.unit.now ++ l.now) lines) → new ≡ text_of_lines (labelled_lines form (Some label) (map (λ l. l.now) lines))
labelled_some form label lines old mid new none first rest =
    rest ∙ (ap (λ (z : List ℕ). z ++ text_of_lines (map (λ (l : Bor (List ℕ)). form.unit.now ++ l.now) lines)) (first ∙ ap (λ (z : List ℕ). z ++ ((form.bullet.now ++ label.now) ++ 10 ∷ [])) none)
    ∙ ap (λ (ls : List (List ℕ)). ((form.bullet.now ++ label.now) ++ 10 ∷ []) ++ text_of_lines ls) (sym (map-map (λ (l : List ℕ). form.unit.now ++ l) (λ (l : Bor (List ℕ)). l.now) lines)))

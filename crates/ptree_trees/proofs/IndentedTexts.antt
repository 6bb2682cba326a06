-- Lines with an indent, and how they are read.
use Rattle.std.proofs.Common.{◌≡◌, ◌≢◌, ℕ, zero, suc, ◌+◌, ◌<◌, ◌≤◌, true, false, List, [], ◌∷◌, ◌++◌, Option, Some, None}
use Rattle.std.proofs.Common.{length, length-append, refl, sym, ap, ◌∙◌, subst, append_assoc, add-one, arith}
use Rattle.std.specs.List.{AllByRecursion}
use Rattle.std.proofs.lemmas.Bool.{false≢true}
use Rattle.std.proofs.lemmas.List.{append_cancel_left}
use Rattle.std.proofs.lemmas.List.Elements.{All-nil, All-cons, All-head, All-tail, All-append}
use Rattle.std.specs.Borrow.{Bor}
use Rattle.std.specs.Prelude.{MatchOption}
use Rattle.std.proofs.lemmas.Str.Pattern.{IsSplitOnceResult, split_parts}
use Rattle.ptree.specs.Texts.{HasNoLineFeed}
use Rattle.ptree.proofs.Drawing.Inserted.{no_line_feed_from_reads}
use Rattle.ptree_trees.specs.Indented.{is_blank, begins_blank, IsUnit, indent}

-- texts without a line feed, each before a line feed, are equal if the whole is
pub line_once : (a b x y : List ℕ) → HasNoLineFeed a → HasNoLineFeed b → a ++ 10 ∷ x ≡ b ++ 10 ∷ y → (a ≡ b) × (x ≡ y)
line_once [] [] x y h k e = (refl, cc)
line_once [] (d ∷ b) x y h k e = absurd (All-head (λ c. c ≢ 10) d b k (let heads : d ≡ 10 = cc in heads))
line_once (c ∷ a) [] x y h k e = absurd (All-head (λ c. c ≢ 10) c a h (let heads : c ≡ 10 = cc in heads))
line_once (c ∷ a) (d ∷ b) x y h k e =
    let heads : c ≡ d = cc in
    let tails : a ++ 10 ∷ x ≡ b ++ 10 ∷ y = cc in
    let more = line_once a b x y (All-tail (λ c. c ≢ 10) c a h) (All-tail (λ c. c ≢ 10) d b k) tails in
    (ap (λ z. z ∷ a) heads ∙ ap (λ z. d ∷ z) more.0, more.1)

-- a text without a line feed is not one with
pub no_line : (a b x : List ℕ) → HasNoLineFeed a → a ≡ b ++ 10 ∷ x → ⊥
no_line a b x h e = holds b (subst HasNoLineFeed e h)
  where
    holds : (g : List ℕ) → HasNoLineFeed (g ++ 10 ∷ x) → ⊥
    holds [] h = All-head (λ c. c ≢ 10) 10 x h refl
    holds (y ∷ g) h = holds g (All-tail (λ c. c ≢ 10) y (g ++ 10 ∷ x) h)

-- the first of two texts holds no line feed if both together hold none
pub no_feed_front : (a b : List ℕ) → HasNoLineFeed (a ++ b) → HasNoLineFeed a
no_feed_front [] b h = All-nil (λ c. c ≢ 10)
no_feed_front (c ∷ a) b h =
    All-cons (λ c. c ≢ 10) c a (All-head (λ c. c ≢ 10) c (a ++ b) h) (no_feed_front a b (All-tail (λ c. c ≢ 10) c (a ++ b) h))

-- nor does the second
pub no_feed_end : (a b : List ℕ) → HasNoLineFeed (a ++ b) → HasNoLineFeed b
no_feed_end [] b h = h
no_feed_end (c ∷ a) b h = no_feed_end a b (All-tail (λ c. c ≢ 10) c (a ++ b) h)

-- a blank or a tab is no line feed
no_feed_blank : (b : ℕ) → is_blank b ≡ true → b ≢ 10
no_feed_blank b h e = false≢true (sym (ap is_blank e) ∙ h)

-- blanks and tabs hold no line feed
no_feed_blanks : (bs : List ℕ) → AllByRecursion (λ b. is_blank b ≡ true) bs → HasNoLineFeed bs
no_feed_blanks [] h = All-nil (λ c. c ≢ 10)
no_feed_blanks (b ∷ bs) h = All-cons (λ c. c ≢ 10) b bs (no_feed_blank b h.0) (no_feed_blanks bs h.1)

-- an indent holds no line feed
pub no_feed_indent : (unit : List ℕ) → IsUnit unit → (n : ℕ) → HasNoLineFeed (indent unit n)
no_feed_indent unit u zero = All-nil (λ c. c ≢ 10)
no_feed_indent unit u (suc n) = All-append (λ c. c ≢ 10) unit (indent unit n) (no_feed_blanks unit u.1) (no_feed_indent unit u n)

-- what begins with a unit begins with a blank or a tab
pub blank_unit : (unit : List ℕ) → IsUnit unit → (x : List ℕ) → begins_blank (unit ++ x) ≡ true
blank_unit [] u x = absurd (u.0 refl)
blank_unit (b ∷ unit) u x = u.1.0

-- an indent of one level more
indent_left : (unit : List ℕ) (n : ℕ) (x : List ℕ) → indent unit (suc n) ++ x ≡ unit ++ (indent unit n ++ x)
indent_left unit n x = append_assoc unit (indent unit n) x

-- so after an indent of some level
blank_indent : (unit : List ℕ) → IsUnit unit → (n : ℕ) (t x : List ℕ) → t ≡ indent unit (suc n) ++ x → begins_blank t ≡ true
blank_indent unit u n t x e = ap begins_blank (e ∙ indent_left unit n x) ∙ blank_unit unit u (indent unit n ++ x)

-- without the first unit
less_indent : (unit : List ℕ) (n m : ℕ) (x y : List ℕ) → indent unit (suc n) ++ x ≡ indent unit (suc m) ++ y → indent unit n ++ x ≡ indent unit m ++ y
less_indent unit n m x y e = append_cancel_left unit (indent unit n ++ x) (indent unit m ++ y) (sym (indent_left unit n x) ∙ (e ∙ indent_left unit m y))

-- the same level and text
pub record SameIndent (n m : ℕ) (t s : List ℕ) : Type 0 where
  pub level : n ≡ m
  pub text : t ≡ s

-- a line has one level and one text
pub indent_once : (unit : List ℕ) → IsUnit unit → (n m : ℕ) (t s : List ℕ) → begins_blank t ≡ false → begins_blank s ≡ false → indent unit n ++ t ≡ indent unit m ++ s → SameIndent n m t s
indent_once unit u zero zero t s h k e = record { level = refl; text = e }
indent_once unit u zero (suc m) t s h k e = absurd (false≢true (sym h ∙ blank_indent unit u m t s e))
indent_once unit u (suc n) zero t s h k e = absurd (false≢true (sym k ∙ blank_indent unit u n s t (sym e)))
indent_once unit u (suc n) (suc m) t s h k e =
    let less = indent_once unit u n m t s h k (less_indent unit n m t s e) in
    record { level = ap suc less.level; text = less.text }

-- if no unit follows, but a blank or a tab does, the line has no level
pub indent_none : (unit : List ℕ) → IsUnit unit → (n m : ℕ) (t s : List ℕ) → begins_blank t ≡ false → begins_blank s ≡ true
    → ((x : List ℕ) → s ≢ unit ++ x) → indent unit n ++ t ≡ indent unit m ++ s → ⊥
indent_none unit u zero zero t s h k none e = false≢true (sym h ∙ (ap begins_blank e ∙ k))
indent_none unit u zero (suc m) t s h k none e = false≢true (sym h ∙ blank_indent unit u m t s e)
indent_none unit u (suc n) zero t s h k none e = none (indent unit n ++ t) (sym e ∙ indent_left unit n t)
indent_none unit u (suc n) (suc m) t s h k none e = indent_none unit u n m t s h k none (less_indent unit n m t s e)

-- a unit after an indent
pub indent_right : (unit : List ℕ) (n : ℕ) (x : List ℕ) → indent unit n ++ (unit ++ x) ≡ indent unit (suc n) ++ x
indent_right unit zero x = sym (indent_left unit zero x)
indent_right unit (suc n) x = indent_left unit n (unit ++ x) ∙ (ap (λ z. unit ++ z) (indent_right unit n x) ∙ sym (indent_left unit (suc n) x))

-- so the level is one more
pub indent_more : (unit line rest more : List ℕ) (n : ℕ) → line ≡ indent unit n ++ rest → rest ≡ unit ++ more → line ≡ indent unit (n + 1) ++ more
indent_more unit line rest more n e f = e ∙ (ap (λ z. indent unit n ++ z) f ∙ (indent_right unit n more ∙ ap (λ m. indent unit m ++ more) (sym (add-one n))))

-- a unit is not empty
pub unit_length : (unit : List ℕ) → IsUnit unit → 0 < length unit
unit_length [] u = absurd (u.0 refl)
unit_length (b ∷ unit) u = omega arith

-- what follows a unit is shorter
pub unit_shorter : (unit rest more : List ℕ) → IsUnit unit → rest ≡ unit ++ more → length more + 1 ≤ length rest
unit_shorter unit rest more u e = let long = ap length e in omega (arith, simp length-append at long, unit_length unit u)

-- what is found at the first line feed is the first line and the rest
pub split_is : (text : List ℕ) (r : Option (Bor (List ℕ) × Bor (List ℕ))) → IsSplitOnceResult 10 text r
    → MatchOption r (HasNoLineFeed text) (λ x. HasNoLineFeed x.0.now × (text ≡ x.0.now ++ 10 ∷ x.1.now))
split_is text None h = no_line_feed_from_reads text (split_parts 10 text None h (omega arith))
split_is text (Some x) h =
    let parts = split_parts 10 text (Some x) h (omega arith) in
    (no_line_feed_from_reads x.0.now parts.1, parts.0)

-- The pieces of items, by the lines that may come after them.
use Rattle.std.proofs.Common.{◌≡◌, ℕ, zero, suc, ◌<◌, ◌≤◌, inl, inr, Bool, true, false, cond, List, [], ◌∷◌, ◌++◌, refl, sym, ap, ◌∙◌, arith}
use Rattle.std.proofs.lemmas.Bool.{cases_lt, eq-eqb, ne_eqb}
use Rattle.ptree.specs.Flags.{has_later, pieces_by, shown_by, spelled_by, HaveLastFlags}
use Rattle.ptree.specs.Outline.{Line, line, Steps}
use Rattle.ptree.specs.Pieces.{Pieces}
use Rattle.ptree.specs.Spelled.{SpelledItem, spelled_item, line_of_item, lines_of_items}
use Rattle.ptree.proofs.Reading.Levels.{has_later_deeper, has_later_here}

-- ## With nothing after them

-- an item with its own parts is itself
same_item : (i : SpelledItem) (a b : List ℕ) → i.pieces ≡ a → i.passing ≡ b → i ≡ spelled_item i.level a b i.text
same_item i a b e f = ap (λ z. spelled_item i.level z i.passing i.text) e ∙ ap (λ z. spelled_item i.level a z i.text) f

-- items with the pieces that later lines give, and those lines, are spelled by all the lines
-- together
pub have_spelled : (p : Pieces) (items : List SpelledItem) (later : List Line) → HaveLastFlags p items later → items ++ spelled_by p later ≡ spelled_by p (lines_of_items items ++ later)
have_spelled p [] later h = refl
have_spelled p (i ∷ items) later h =
    ap (λ z. i ∷ z) (have_spelled p items later h.1)
    ∙ ap (λ z. z ∷ spelled_by p (lines_of_items items ++ later)) (same_item i (pieces_by p (lines_of_items items ++ later) i.level) (shown_by p (lines_of_items items ++ later) (line_of_item i)) h.0.0 h.0.1)

-- ## Closing lines

-- lines without text: one for each level from n up at which a later item is wanted
abbrev pub closings : (ℕ → Bool) → ℕ → List Line
closings f zero = []
closings f (suc n) = cond (f (suc n)) (line (suc n) [] ∷ closings f n) (closings f n)

-- there is no later item at a level above n
pub closings_above : (f : ℕ → Bool) (n m : ℕ) → n < m → has_later (closings f n) m ≡ false
closings_above f zero m l = refl
closings_above f (suc n) m l = at (f (suc n)) (closings_above f n m (omega arith)) where
  at : (b : Bool) → has_later (closings f n) m ≡ false → has_later (cond b (line (suc n) [] ∷ closings f n) (closings f n)) m ≡ false
  at true rest = has_later_here (line (suc n) []) (closings f n) m (omega arith) ∙ ne_eqb m (suc n) (omega arith)
  at false rest = rest

-- up to level n there is a later item exactly where it is wanted
pub closings_later : (f : ℕ → Bool) (n m : ℕ) → 0 < m → m ≤ n → has_later (closings f n) m ≡ f m
closings_later f zero m l h = absurd (omega arith)
closings_later f (suc n) m l h = elim (cases_lt m (suc n)) [
  | inl less ↦ below less (f (suc n)) (closings_later f n m l (omega arith))
  | inr more ↦ let same : suc n ≡ m = omega arith in here same (f (suc n)) refl
] where
  below : m < suc n → (b : Bool) → has_later (closings f n) m ≡ f m → has_later (cond b (line (suc n) [] ∷ closings f n) (closings f n)) m ≡ f m
  below less true rest = has_later_deeper (line (suc n) []) (closings f n) m less ∙ rest
  below less false rest = rest

  here : suc n ≡ m → (b : Bool) → f (suc n) ≡ b → has_later (cond b (line (suc n) [] ∷ closings f n) (closings f n)) m ≡ f m
  here same true e = has_later_here (line (suc n) []) (closings f n) m (omega arith) ∙ (eq-eqb m (suc n) (sym same) ∙ (sym e ∙ ap f same))
  here same false e = closings_above f n m (omega arith) ∙ (sym e ∙ ap f same)

-- the levels of these lines increase by at most one
pub closings_steps : (f : ℕ → Bool) (n previous : ℕ) → n ≤ previous → Steps previous (closings f n)
closings_steps f zero previous l = tt
closings_steps f (suc n) previous l = at (f (suc n)) (closings_steps f n (suc n) (omega arith)) (closings_steps f n previous (omega arith)) where
  at : (b : Bool) → Steps (suc n) (closings f n) → Steps previous (closings f n) → Steps previous (cond b (line (suc n) [] ∷ closings f n) (closings f n))
  at true below rest = (omega arith, omega arith, below)
  at false below rest = rest

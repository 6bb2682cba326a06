-- Lines whose levels increase by at most one are those of a tree.
use Rattle.std.proofs.Common.{◌≡◌, ℕ, zero, suc, ◌+◌, ◌-◌, ◌<◌, List, [], ◌∷◌, ◌++◌, length, refl, sym, ap, ◌∙◌, subst, append_assoc, arith}
use Rattle.std.proofs.lemmas.List.{append-nil}
use Rattle.ptree.specs.Outline.{Line, line, outline_at, Steps}
use Rattle.ptree.specs.Tree.{none, item, Forest}

-- the lines of forests one after the other, the last forest at level 1
abbrev pub stack_lines : List Forest → List Line
stack_lines [] = []
stack_lines (f ∷ fs) = outline_at (suc (length fs)) f ++ stack_lines fs

-- n forests have these lines
abbrev IsStack : ℕ → List Line → Type 0
IsStack n o = (fs : List Forest) × (length fs ≡ n) × (o ≡ stack_lines fs)

-- with more forests, which are empty, the lines are the same
stack_deeper : (n m : ℕ) (o : List Line) → IsStack n o → IsStack (m + n) o
stack_deeper n zero o (fs, len, is) = (fs, let e : n ≡ 0 + n = omega arith in len ∙ e, is)
stack_deeper n (suc m) o h =
    let (fs, len, is) = stack_deeper n m o h in
    (none ∷ fs, let e : suc (m + n) ≡ suc m + n = omega arith in ap suc len ∙ e, is)

-- empty forests have no lines
stack_none : (n : ℕ) → IsStack n []
stack_none zero = ([], refl, refl)
stack_none (suc n) = let (fs, len, is) = stack_none n in (none ∷ fs, ap suc len, is)

-- a line before those of a stack
stack_put : (l : Line) (o : List Line) → 0 < l.level → IsStack (suc l.level) o → IsStack l.level (l ∷ o)
stack_put l o low ([], len, is) = absurd (omega (arith, len))
stack_put l o low (c ∷ [], len, is) = absurd (omega (arith, len))
stack_put l o low (c ∷ r ∷ fs, len, is) =
    let n : ℕ = suc (length fs) in
    let level : n ≡ l.level = omega (arith, len) in
    let here : l ≡ line n l.text = ap (λ z. line z l.text) (sym level) in (
      item l.text c r ∷ fs,
      level,
      ap (λ z. z ∷ o) here ∙ ap (λ z. line n l.text ∷ z) (is ∙ sym (append_assoc (outline_at (suc n) c) (outline_at n r) (stack_lines fs))),
    )

-- lines whose levels increase by at most one are those of forests
stack_of : (n : ℕ) (o : List Line) → Steps n o → IsStack (suc n) o
stack_of n [] s = stack_none (suc n)
stack_of n (l ∷ o) s =
    let high = s.1 in
    subst (λ z. IsStack z (l ∷ o)) (let e : (suc n - l.level) + l.level ≡ suc n = omega (arith, high) in e) (stack_deeper l.level (suc n - l.level) (l ∷ o) (stack_put l o s.0 (stack_of l.level o s.2)))

-- lines whose levels increase by at most one are those of a tree
pub tree_of_lines : (o : List Line) → Steps 0 o → (f : Forest) × (outline_at 1 f ≡ o)
tree_of_lines o s = at (stack_of 0 o s) where
  at : IsStack 1 o → (f : Forest) × (outline_at 1 f ≡ o)
  at ([], len, is) = absurd (omega (arith, len))
  at (f ∷ [], len, is) = (f, sym (is ∙ append-nil (outline_at 1 f)))
  at (f ∷ g ∷ fs, len, is) = absurd (omega (arith, len))

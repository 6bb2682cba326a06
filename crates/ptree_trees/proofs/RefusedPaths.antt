-- The first path to a value of a kind, row by row.
use Rattle.std.proofs.Common.{◌≡◌, ◌∙◌, ◌⊎◌, inl, inr, ℕ, List, [], ◌∷◌, ◌++◌, map, reverse, Vec, Option, Some, None, Global, ap, sym, refl, subst}
use Rattle.std.proofs.lemmas.List.{reverse-append}
use Rattle.std.proofs.lemmas.Option.{none-some}
use Rattle.ptree_trees.specs.declared.documents.refused.Step.{Step}
use Rattle.ptree_trees.specs.RefusedPath.{StepValue, at_key, at_position, step_of, Path, IsStepBefore, IsPathBefore, LeadsTo, IsFirstOf}
use Rattle.ptree_trees.specs.RefusedWalk.{path_found, HasRow, LeadsThrough, IsFirstIn}

-- the first of some paths is the first of others that are the same
pub same_paths : (L M : Path → Type 0) (path : Option Path) → ((q : Path) → L q → M q) → ((q : Path) → M q → L q) → IsFirstOf L path → IsFirstOf M path
same_paths L M None to fro h = λ q m. h q (fro q m)
same_paths L M (Some p) to fro h = (to p h.0, λ q m. h.1 q (fro q m))

module _ {D : Type 0} (at_step : StepValue → D → Option D) (IsOfKind : D → Type 0) where
  -- no row leads anywhere
  pub none_in_no_rows : (q : Path) → LeadsThrough at_step IsOfKind [] q → ⊥
  none_in_no_rows [] h = h
  none_in_no_rows (s ∷ p) h = h.1

  -- a path through rows goes through the first one or another
  through_row : (r : StepValue × D) (rs : List (StepValue × D)) (s : StepValue) (p : Path) → LeadsThrough at_step IsOfKind (r ∷ rs) (s ∷ p)
      → ((s ≡ r.0) × LeadsTo at_step IsOfKind r.1 p) ⊎ LeadsThrough at_step IsOfKind rs (s ∷ p)
  through_row r rs s p h = elim h.1 [ inl e ↦ inl (e.0, subst (λ d. LeadsTo at_step IsOfKind d p) e.1 h.2) | inr row ↦ inr (h.0, row, h.2) ]

  -- a path through rows goes through more rows
  through_more : (r : StepValue × D) (rs : List (StepValue × D)) (q : Path) → LeadsThrough at_step IsOfKind rs q → LeadsThrough at_step IsOfKind (r ∷ rs) q
  through_more r rs [] h = h
  through_more r rs (s ∷ p) h = (h.0, inr h.1, h.2)

  -- where the first row leads to none, a path goes through another
  through_others : (r : StepValue × D) (rs : List (StepValue × D)) → IsFirstOf (LeadsTo at_step IsOfKind r.1) None
      → (q : Path) → LeadsThrough at_step IsOfKind (r ∷ rs) q → LeadsThrough at_step IsOfKind rs q
  through_others r rs none [] h = h
  through_others r rs none (s ∷ p) h = elim (through_row r rs s p h) [ inl e ↦ absurd (none p e.1) | inr through ↦ through ]

  -- a row that leads to none is passed
  pub passed_row : (r : StepValue × D) (rs : List (StepValue × D)) (path : Option Path) → IsFirstOf (LeadsTo at_step IsOfKind r.1) None
      → IsFirstIn at_step IsOfKind rs path → IsFirstIn at_step IsOfKind (r ∷ rs) path
  passed_row r rs path none rest =
      same_paths (LeadsThrough at_step IsOfKind rs) (LeadsThrough at_step IsOfKind (r ∷ rs)) path (through_more r rs) (through_others r rs none) rest

  -- the first path of a row that comes before all others
  pub found_row : (r : StepValue × D) (rs : List (StepValue × D)) (p : Path) → ((s : StepValue) (c : D) → HasRow rs s c → IsStepBefore r.0 s)
      → IsFirstOf (LeadsTo at_step IsOfKind r.1) (Some p) → IsFirstIn at_step IsOfKind (r ∷ rs) (Some (r.0 ∷ p))
  found_row r rs p before first = ((r.1, inl (refl, refl), first.0), others)
    where
      others : (q : Path) → LeadsThrough at_step IsOfKind (r ∷ rs) q → (q ≡ r.0 ∷ p) ⊎ IsPathBefore (r.0 ∷ p) q
      others [] h = absurd h
      others (s ∷ q) h = elim (through_row r rs s q h) [
        | inl e ↦ elim (first.1 q e.1) [ inl same ↦ inl (cc (e.0, same)) | inr later ↦ inr (inr (sym e.0, later)) ]
        | inr through ↦ inr (inl (before s through.0 through.1))
      ]

  -- the first path in a value that is not of the kind itself, by the rows of what stands in it
  pub first_by_rows : (d : D) (rows : List (StepValue × D)) (path : Option Path) → ¬ (IsOfKind d)
      → ((s : StepValue) (c : D) → at_step s d ≡ Some c → HasRow rows s c) → ((s : StepValue) (c : D) → HasRow rows s c → at_step s d ≡ Some c)
      → IsFirstIn at_step IsOfKind rows path → IsFirstOf (LeadsTo at_step IsOfKind d) path
  first_by_rows d rows path not row step first = same_paths (LeadsThrough at_step IsOfKind rows) (LeadsTo at_step IsOfKind d) path by_steps by_rows first
    where
      by_steps : (q : Path) → LeadsThrough at_step IsOfKind rows q → LeadsTo at_step IsOfKind d q
      by_steps [] h = absurd h
      by_steps (s ∷ p) h = (h.0, step s h.0 h.1, h.2)

      by_rows : (q : Path) → LeadsTo at_step IsOfKind d q → LeadsThrough at_step IsOfKind rows q
      by_rows [] h = absurd (not h)
      by_rows (s ∷ p) h = (h.0, row s h.0 h.1, h.2)

-- the first path through the rows that are left is the first one through all
pub record AreFirstBut {D : Type 0} (at_step : StepValue → D → Option D) (IsOfKind : D → Type 0) (all left : List (StepValue × D)) : Type 0 where
  pub go : (path : Option Path) → IsFirstIn at_step IsOfKind left path → IsFirstIn at_step IsOfKind all path

module _ {D : Type 0} (at_step : StepValue → D → Option D) (IsOfKind : D → Type 0) (all : List (StepValue × D)) where
  -- one row more leads to none
  pub one_row_passed : (r : StepValue × D) (rs left : List (StepValue × D)) → left ≡ r ∷ rs → AreFirstBut at_step IsOfKind all left
      → IsFirstOf (LeadsTo at_step IsOfKind r.1) None → AreFirstBut at_step IsOfKind all rs
  one_row_passed r rs left e h none =
      record { go = λ path rest. h.go path (subst (λ z. IsFirstIn at_step IsOfKind z path) (sym e) (passed_row at_step IsOfKind r rs path none rest)) }

  -- the next row leads to the first path
  pub next_row_found : (r : StepValue × D) (rs left : List (StepValue × D)) (p q : Path) → left ≡ r ∷ rs → AreFirstBut at_step IsOfKind all left
      → ((s : StepValue) (c : D) → HasRow rs s c → IsStepBefore r.0 s) → IsFirstOf (LeadsTo at_step IsOfKind r.1) (Some p) → q ≡ r.0 ∷ p
      → IsFirstIn at_step IsOfKind all (Some q)
  next_row_found r rs left p q e h before first is =
      h.go (Some q) (subst (λ z. IsFirstIn at_step IsOfKind z (Some q)) (sym e) (subst (λ z. IsFirstIn at_step IsOfKind (r ∷ rs) (Some z)) (sym is) (found_row at_step IsOfKind r rs p before first)))

  -- all rows lead to none
  pub all_rows_passed : (left : List (StepValue × D)) → left ≡ [] → AreFirstBut at_step IsOfKind all left → IsFirstIn at_step IsOfKind all None
  all_rows_passed left e h = h.go None (subst (λ z. IsFirstIn at_step IsOfKind z None) (sym e) (none_in_no_rows at_step IsOfKind))

-- a value that is not of the kind, and that nothing stands in
pub none_in_leaf : {D : Type 0} (at_step : StepValue → D → Option D) (IsOfKind : D → Type 0) (d e : D) → d ≡ e → ¬ (IsOfKind e)
    → ((k : List ℕ) → at_step (at_key k) e ≡ None) → ((n : ℕ) → at_step (at_position n) e ≡ None) → IsFirstOf (LeadsTo at_step IsOfKind d) None
none_in_leaf {D} at_step IsOfKind d e is not no_key no_position = subst (λ d. IsFirstOf (LeadsTo at_step IsOfKind d) None) (sym is) none
  where
    nothing : (s : StepValue) (c : D) → at_step s e ≡ Some c → ⊥
    nothing (at_key k) c h = none-some c (sym (no_key k) ∙ h)
    nothing (at_position n) c h = none-some c (sym (no_position n) ∙ h)

    none : (q : Path) → LeadsTo at_step IsOfKind e q → ⊥
    none [] h = not h
    none (s ∷ p) h = nothing s h.0 h.1

-- a value of the kind that nothing stands in
pub first_of_kind : {D : Type 0} (at_step : StepValue → D → Option D) (IsOfKind : D → Type 0) (d e : D) (p : Path) → d ≡ e → p ≡ [] → IsOfKind e
    → ((k : List ℕ) → at_step (at_key k) e ≡ None) → ((n : ℕ) → at_step (at_position n) e ≡ None) → IsFirstOf (LeadsTo at_step IsOfKind d) (Some p)
first_of_kind {D} at_step IsOfKind d e p is here kind no_key no_position =
    subst (λ d. IsFirstOf (LeadsTo at_step IsOfKind d) (Some p)) (sym is) (subst (λ p. IsFirstOf (LeadsTo at_step IsOfKind e) (Some p)) (sym here) (kind, others))
  where
    nothing : (s : StepValue) (c : D) → at_step s e ≡ Some c → ⊥
    nothing (at_key k) c h = none-some c (sym (no_key k) ∙ h)
    nothing (at_position n) c h = none-some c (sym (no_position n) ∙ h)

    others : (q : Path) → LeadsTo at_step IsOfKind e q → (q ≡ []) ⊎ IsPathBefore [] q
    others [] h = inl refl
    others (s ∷ q) h = absurd (nothing s h.0 h.1)

-- a step more at the front of a path that is found from its end
pub found_below : (steps more : Vec Step Global) (s : Step) → more.items ≡ steps.items ++ s ∷ [] → path_found more ≡ step_of s ∷ path_found steps
found_below steps more s e = ap (λ z. map step_of (reverse z)) e ∙ ap (map step_of) (reverse-append steps.items (s ∷ []))

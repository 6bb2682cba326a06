-- The rows of a list's elements and of a table's members, and the first path through them.
use Rattle.std.proofs.Common.{◌≡◌, ◌∙◌, ◌⊎◌, inl, inr, ℕ, zero, suc, ◌<◌, ◌+◌, List, [], ◌∷◌, Option, Some, None, String, Global, Less, Equal, Greater, nat_cmp, string_bytes, ap, sym, subst, arith, add-zero, Ordering}
use Rattle.std.proofs.lemmas.Option.{none-some, same_Some}
use Rattle.std.specs.Cmp.Lexicographic.{slice_cmp, nat_list_cmp_total}
use Rattle.std.specs.FinMap.{nat_cmp-IsAntisymmetric, slice_cmp-IsAntisymmetric}
use Rattle.std.specs.List.{AllByRecursion}
use Rattle.std.specs.List.Sorted.{IsStrictlySortedBy}
use Rattle.std.specs.Map.{keys_of}
use Rattle.std.specs.Ordering.{match_ordering, ordering_reverse}
use Rattle.std.specs.String.{string_cmp}
use Rattle.ptree_trees.proofs.RefusedPaths.{first_by_rows}
use Rattle.ptree_trees.specs.RefusedPath.{StepValue, at_key, at_position, Path, IsStepBefore, LeadsTo, IsFirstOf}
use Rattle.ptree_trees.specs.RefusedWalk.{element_rows, member_rows, HasRow, IsFirstIn}

-- an element stands before those after it
pub elements_after : {D : Type 0} (n m : ℕ) (ds : List D) → n < m → (s : StepValue) (c : D) → HasRow (element_rows m ds) s c → IsStepBefore (at_position n) s
elements_after n m [] h s c row = absurd row
elements_after n m (d ∷ ds) h s c (inl e) = subst (IsStepBefore (at_position n)) (sym e.0) h
elements_after n m (d ∷ ds) h s c (inr row) = elements_after n (m + 1) ds (omega arith) s c row

-- a key stands before those after it
pub members_after : {V D : Type 0} (meant : V → D) (k : String Global) (ms : List (String Global × V)) → AllByRecursion (λ l. string_cmp k l ≡ Less) (keys_of ms)
    → (s : StepValue) (c : D) → HasRow (member_rows meant ms) s c → IsStepBefore (at_key (string_bytes k)) s
members_after meant k [] h s c row = absurd row
members_after meant k (m ∷ ms) h s c (inl e) = subst (IsStepBefore (at_key (string_bytes k))) (sym e.0) h.0
members_after meant k (m ∷ ms) h s c (inr row) = members_after meant k ms h.1 s c row

module _ {D : Type 0} (get : ℕ → List D → Option D) (nothing : (n : ℕ) → get n [] ≡ None) (first : (d : D) (ds : List D) → get zero (d ∷ ds) ≡ Some d)
    (later : (n : ℕ) (d : D) (ds : List D) → get (suc n) (d ∷ ds) ≡ get n ds) where
  -- an element has a row
  element_row : (n m : ℕ) (ds : List D) (c : D) → get m ds ≡ Some c → HasRow (element_rows n ds) (at_position (n + m)) c
  element_row n m [] c h = absurd (none-some c (sym (nothing m) ∙ h))
  element_row n zero (d ∷ ds) c h = inl (ap at_position (add-zero n), same_Some c d (sym h ∙ first d ds))
  element_row n (suc m) (d ∷ ds) c h =
      let e : (n + 1) + m ≡ n + suc m = omega arith in
      inr (subst (λ k. HasRow (element_rows (n + 1) ds) (at_position k) c) e (element_row (n + 1) m ds c (sym (later m d ds) ∙ h)))

  -- the element of a row
  row_element : (n : ℕ) (ds : List D) (s : StepValue) (c : D) → HasRow (element_rows n ds) s c → (m : ℕ) × (s ≡ at_position (n + m)) × (get m ds ≡ Some c)
  row_element n [] s c row = absurd row
  row_element n (d ∷ ds) s c (inl e) = (zero, e.0 ∙ ap at_position (sym (add-zero n)), first d ds ∙ ap Some (sym e.1))
  row_element n (d ∷ ds) s c (inr row) =
      let r = row_element (n + 1) ds s c row in
      let e : (n + 1) + r.0 ≡ n + suc r.0 = omega arith in
      (suc r.0, r.1 ∙ ap at_position e, later r.0 d ds ∙ r.2)

  -- the rows from the first element on are the elements at their positions
  pub element_rows_are : (ds : List D) (m : ℕ) (c : D) → get m ds ≡ Some c → HasRow (element_rows 0 ds) (at_position m) c
  element_rows_are ds m c h = subst (λ k. HasRow (element_rows 0 ds) (at_position k) c) (omega arith) (element_row 0 m ds c h)

  pub rows_are_elements : (ds : List D) (s : StepValue) (c : D) → HasRow (element_rows 0 ds) s c → (m : ℕ) × (s ≡ at_position m) × (get m ds ≡ Some c)
  rows_are_elements ds s c row =
      let r = row_element 0 ds s c row in
      let e : 0 + r.0 ≡ r.0 = omega arith in
      (r.0, r.1 ∙ ap at_position e, r.2)

-- what an ordering picks
picked : {D : Type 0} (o : Ordering) (rest : Option D) (d c : D) → match_ordering o rest (Some d) rest ≡ Some c → ((o ≡ Equal) × (c ≡ d)) ⊎ (rest ≡ Some c)
picked o rest d c h = grind arith

-- a key is equal to itself
key_itself : (k : List ℕ) → slice_cmp nat_cmp k k ≡ Equal
key_itself k = grind (arith, nat_list_cmp_total.antisymm k k)

module _ {V D : Type 0} (meant : V → D) (find : List ℕ → List (String Global × V) → Option D) (nothing : (k : List ℕ) → find k [] ≡ None)
    (first : (k : List ℕ) (m : String Global × V) (ms : List (String Global × V))
    → find k (m ∷ ms) ≡ match_ordering (slice_cmp nat_cmp k (string_bytes m.0)) (find k ms) (Some (meant m.1)) (find k ms)) where
  -- a value that is found at a key has a row
  pub member_row : (k : List ℕ) (ms : List (String Global × V)) (c : D) → find k ms ≡ Some c → HasRow (member_rows meant ms) (at_key k) c
  member_row k [] c h = absurd (none-some c (sym (nothing k) ∙ h))
  member_row k (m ∷ ms) c h = elim (picked (slice_cmp nat_cmp k (string_bytes m.0)) (find k ms) (meant m.1) c (sym (first k m ms) ∙ h)) [
    | inl e ↦ inl (ap at_key (slice_cmp-IsAntisymmetric nat_cmp-IsAntisymmetric k (string_bytes m.0) e.0), e.1)
    | inr rest ↦ inr (member_row k ms c rest)
  ]

  -- the value of a row is found at its key, where keys ascend
  pub row_member : (ms : List (String Global × V)) → IsStrictlySortedBy string_cmp (keys_of ms) → (s : StepValue) (c : D) → HasRow (member_rows meant ms) s c
      → (k : List ℕ) × (s ≡ at_key k) × (find k ms ≡ Some c)
  unfolding IsStrictlySortedBy
  row_member [] sorted s c row = absurd row
  row_member (m ∷ ms) sorted s c (inl e) =
      let k = string_bytes m.0 in
      (k, e.0, first k m ms ∙ ap (λ o. match_ordering o (find k ms) (Some (meant m.1)) (find k ms)) (key_itself k) ∙ ap Some (sym e.1))
  row_member (m ∷ ms) sorted s c (inr row) =
      let r = row_member ms sorted.1 s c row in
      let before = subst (IsStepBefore (at_key (string_bytes m.0))) r.1 (members_after meant m.0 ms sorted.0 s c row) in
      let after : slice_cmp nat_cmp r.0 (string_bytes m.0) ≡ Greater = nat_list_cmp_total.antisymm r.0 (string_bytes m.0) ∙ ap ordering_reverse before in
      (r.0, r.1, first r.0 m ms ∙ ap (λ o. match_ordering o (find r.0 ms) (Some (meant m.1)) (find r.0 ms)) after ∙ r.2)

-- the first path in a list, given what its elements are
pub first_in_list : {D : Type 0} (at_step : StepValue → D → Option D) (IsOfKind : D → Type 0) (get : ℕ → List D → Option D) (nothing : (n : ℕ) → get n [] ≡ None)
    (first : (d : D) (ds : List D) → get zero (d ∷ ds) ≡ Some d) (later : (n : ℕ) (d : D) (ds : List D) → get (suc n) (d ∷ ds) ≡ get n ds)
    (d : D) (ds : List D) (path : Option Path) → ¬ (IsOfKind d) → ((n : ℕ) → at_step (at_position n) d ≡ get n ds) → ((k : List ℕ) → at_step (at_key k) d ≡ None)
    → IsFirstIn at_step IsOfKind (element_rows 0 ds) path → IsFirstOf (LeadsTo at_step IsOfKind d) path
first_in_list {D} at_step IsOfKind get nothing first later d ds path not position no_key h =
    first_by_rows at_step IsOfKind d (element_rows 0 ds) path not row step h
  where
    row : (s : StepValue) (c : D) → at_step s d ≡ Some c → HasRow (element_rows 0 ds) s c
    row (at_key k) c e = absurd (none-some c (sym (no_key k) ∙ e))
    row (at_position n) c e = element_rows_are get nothing first later ds n c (sym (position n) ∙ e)

    step : (s : StepValue) (c : D) → HasRow (element_rows 0 ds) s c → at_step s d ≡ Some c
    step s c e =
        let r = rows_are_elements get nothing first later ds s c e in
        ap (λ s. at_step s d) r.1 ∙ position r.0 ∙ r.2

-- the first path in members, given what is found at keys
pub first_in_members : {V D : Type 0} (at_step : StepValue → D → Option D) (IsOfKind : D → Type 0) (meant : V → D) (find : List ℕ → List (String Global × V) → Option D)
    (nothing : (k : List ℕ) → find k [] ≡ None)
    (first : (k : List ℕ) (m : String Global × V) (ms : List (String Global × V))
    → find k (m ∷ ms) ≡ match_ordering (slice_cmp nat_cmp k (string_bytes m.0)) (find k ms) (Some (meant m.1)) (find k ms))
    (d : D) (ms : List (String Global × V)) (path : Option Path) → IsStrictlySortedBy string_cmp (keys_of ms) → ¬ (IsOfKind d)
    → ((k : List ℕ) → at_step (at_key k) d ≡ find k ms) → ((n : ℕ) → at_step (at_position n) d ≡ None)
    → IsFirstIn at_step IsOfKind (member_rows meant ms) path → IsFirstOf (LeadsTo at_step IsOfKind d) path
first_in_members {V} {D} at_step IsOfKind meant find nothing first d ms path sorted not key no_position h =
    first_by_rows at_step IsOfKind d (member_rows meant ms) path not row step h
  where
    row : (s : StepValue) (c : D) → at_step s d ≡ Some c → HasRow (member_rows meant ms) s c
    row (at_key k) c e = member_row meant find nothing first k ms c (sym (key k) ∙ e)
    row (at_position n) c e = absurd (none-some c (sym (no_position n) ∙ e))

    step : (s : StepValue) (c : D) → HasRow (member_rows meant ms) s c → at_step s d ≡ Some c
    step s c e =
        let r = row_member meant find nothing first ms sorted s c e in
        ap (λ s. at_step s d) r.1 ∙ key r.0 ∙ r.2

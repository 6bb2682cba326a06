-- Graphs expanded once: a tree of occurrences is one by addresses exactly where the row below its
-- root is.
use Rattle.std.specs.Prelude.{slice_get, option_and_then, ◌↔◌, ◌≢◌, IsTrue, if◌then◌else◌, nat_lt}
use Rattle.std.proofs.Common.{◌≡◌, ℕ, zero, suc, ◌<◌, ◌⊎◌, inl, inr, Bool, List, [], ◌∷◌, map, Option, Some, None, length, refl, sym, ap, subst, ◌∙◌, arith}
use Rattle.ptree.specs.Address.{Address, at}
use Rattle.ptree.proofs.Drawing.Laws.{less_suc}
use Rattle.ptree.proofs.Graphs.Occurrences.{row_of_occurrences}
use Rattle.ptree.specs.Occurrence.{OccurrenceTree, occurrence, row, occurrence_kids, StandsAt, IsExpandedBefore, IsExpanded}

-- ## Occurrences

-- the nodes of occurrences
abbrev pub nodes_of : List OccurrenceTree → List ℕ
nodes_of = map (λ q. q.node)

-- without nodes there are no occurrences
pub no_nodes : (ps : List OccurrenceTree) → nodes_of ps ≡ [] → ps ≡ []
no_nodes [] h = refl
no_nodes (p ∷ ps) h = absurd (cc)

-- an occurrence is its node, its mark and what is below it
pub rebuilt : (t : OccurrenceTree) (v : ℕ) (m : Bool) (ps : List OccurrenceTree) → t.node ≡ v → t.repeated ≡ m → occurrence_kids t ≡ ps → t ≡ occurrence v m (row ps)
rebuilt t v m ps e f g =
    let c : t.children ≡ row ps = sym (row_of_occurrences t.children) ∙ ap row g in
    ap (λ z. occurrence z t.repeated t.children) e ∙ (ap (λ z. occurrence v z t.children) f ∙ ap (λ z. occurrence v m z) c)

-- ## Addresses

-- what is below a child is below the occurrence, one step longer
pub stands_cons : (t c p : OccurrenceTree) (i : ℕ) (a : Address) → slice_get (occurrence_kids t) i ≡ Some c → StandsAt c a p → StandsAt t (i ∷ a) p
stands_cons t c p i a e s = ap (λ o. option_and_then (λ y. at occurrence_kids y a) o) e ∙ s

-- what is at an address of one step or more is below a child
pub stands_step : (t p : OccurrenceTree) (i : ℕ) (a : Address) → StandsAt t (i ∷ a) p → (c : OccurrenceTree) × (slice_get (occurrence_kids t) i ≡ Some c) × StandsAt c a p
stands_step t p i a s = step (slice_get (occurrence_kids t) i) refl s where
  step : (o : Option OccurrenceTree) → slice_get (occurrence_kids t) i ≡ o → option_and_then (λ y. at occurrence_kids y a) o ≡ Some p → (c : OccurrenceTree) × (slice_get (occurrence_kids t) i ≡ Some c) × StandsAt c a p
  step None e h = absurd (cc)
  step (Some c) e h = (c, e, h)

-- at the empty address is the tree itself
pub stands_root : (t p : OccurrenceTree) → StandsAt t [] p → t ≡ p
stands_root t p s = cc

-- an empty list has no elements
pub none_within : {X : Type 0} (xs : List X) (i : ℕ) (x : X) → xs ≡ [] → slice_get xs i ≡ Some x → ⊥
none_within [] i x e s = absurd (cc)
none_within (y ∷ ys) i x e s = absurd (cc)

-- a list with an element is not empty
pub not_empty : {X : Type 0} (xs : List X) (i : ℕ) (x : X) → slice_get xs i ≡ Some x → xs ≢ []
not_empty xs i x s e = none_within xs i x e s

-- ## Expanded nodes

-- somewhere in the first i of these occurrences
abbrev pub IsExpandedIn : List OccurrenceTree → ℕ → ℕ → Type 0
IsExpandedIn cs i v = (j : ℕ) × (c : OccurrenceTree) × (j < i) × (slice_get cs j ≡ Some c) × IsExpanded c v

-- somewhere in these occurrences
abbrev pub IsExpandedAmong : List OccurrenceTree → ℕ → Type 0
IsExpandedAmong cs w = (j : ℕ) × (c : OccurrenceTree) × (slice_get cs j ≡ Some c) × IsExpanded c w

-- what is expanded in an occurrence
pub shown_to : (t : OccurrenceTree) (w : ℕ) → IsExpanded t w → ((t.node ≡ w) × (occurrence_kids t ≢ [])) ⊎ IsExpandedAmong (occurrence_kids t) w
shown_to t w ([], q, s, n, k) =
    let e = stands_root t q s in
    inl (ap (λ (z : OccurrenceTree). z.node) e ∙ n, λ h. k (ap occurrence_kids (sym e) ∙ h))
shown_to t w (j ∷ b, q, s, n, k) = let (c, e, r) = stands_step t q j b s in inr (j, c, e, (b, q, r, n, k))

-- and the other way round
pub shown_from : (t : OccurrenceTree) (w : ℕ) → ((t.node ≡ w) × (occurrence_kids t ≢ [])) ⊎ IsExpandedAmong (occurrence_kids t) w → IsExpanded t w
shown_from t w (inl (n, k)) = ([], t, refl, n, k)
shown_from t w (inr (j, c, e, (b, q, r, n, k))) = (j ∷ b, q, stands_cons t c q j b e r, n, k)

-- a node that the first occurrence expands, or one of the i after it, is among the first of all
later_to : (P : ℕ → Type 0) (c : OccurrenceTree) (cs : List OccurrenceTree) (i w : ℕ) → (P w ⊎ IsExpanded c w) ⊎ IsExpandedIn cs i w → P w ⊎ IsExpandedIn (c ∷ cs) (suc i) w
later_to P c cs i w (inl (inl y)) = inl y
later_to P c cs i w (inl (inr y)) = inr (0, c, omega arith, refl, y)
later_to P c cs i w (inr (j, z, l, f, y)) = inr (suc j, z, omega (arith, l), f, y)

-- and the other way round
later_from : (P : ℕ → Type 0) (c : OccurrenceTree) (cs : List OccurrenceTree) (i w : ℕ) → P w ⊎ IsExpandedIn (c ∷ cs) (suc i) w → (P w ⊎ IsExpanded c w) ⊎ IsExpandedIn cs i w
later_from P c cs i w (inl y) = inl (inl y)
later_from P c cs i w (inr (zero, z, l, f, y)) = let same : c ≡ z = cc in inl (inr (subst (λ (q : OccurrenceTree). IsExpanded q w) (sym same) y))
later_from P c cs i w (inr (suc j, z, l, f, y)) = inr (j, z, omega (arith, l), f, y)

module _ (below : ℕ → List ℕ) where
  -- the nodes that may be below an occurrence at a level
  abbrev pub allowed : ℕ → OccurrenceTree → ℕ → List ℕ
  allowed d p n = if p.repeated then [] else (if nat_lt n d then below p.node else [])

  -- expanded once, where P tells which nodes are expanded before
  pub record OnceFrom (P : ℕ → Type 0) (d : ℕ) (t : OccurrenceTree) : Type 0 where
    pub repeated : (a : Address) (p : OccurrenceTree) → StandsAt t a p → IsTrue p.repeated ↔ (P p.node ⊎ IsExpandedBefore t a p.node)
    pub children : (a : Address) (p : OccurrenceTree) → StandsAt t a p → nodes_of (occurrence_kids p) ≡ allowed d p (length a)

  -- and so do occurrences side by side
  abbrev pub RowFrom : (ℕ → Type 0) → ℕ → List OccurrenceTree → Type 0
  RowFrom P d cs = (i : ℕ) (c : OccurrenceTree) → slice_get cs i ≡ Some c → OnceFrom (λ w. P w ⊎ IsExpandedIn cs i w) d c

  -- the same where another fact tells the same nodes
  pub transfer : (P Q : ℕ → Type 0) (d : ℕ) (t : OccurrenceTree) → ((w : ℕ) → P w ↔ Q w) → OnceFrom P d t → OnceFrom Q d t
  transfer P Q d t h o = record {
    repeated = λ a p s. let m = o.repeated a p s in (
      λ i. elim (m.0 i) [ inl x ↦ inl ((h p.node).0 x) | inr y ↦ inr y ],
      λ i. m.1 (elim i as (λ _. P p.node ⊎ IsExpandedBefore t a p.node) [ inl x ↦ inl ((h p.node).1 x) | inr y ↦ inr y ]),
    );
    children = o.children;
  }

  -- and so for a row
  pub transfer_row : (P Q : ℕ → Type 0) (d : ℕ) (cs : List OccurrenceTree) → ((w : ℕ) → P w ↔ Q w) → RowFrom P d cs → RowFrom Q d cs
  transfer_row P Q d cs h r i c e =
      transfer (λ w. P w ⊎ IsExpandedIn cs i w) (λ w. Q w ⊎ IsExpandedIn cs i w) d c
      (λ w. (λ x. elim x as (λ _. Q w ⊎ IsExpandedIn cs i w) [ inl y ↦ inl ((h w).0 y) | inr y ↦ inr y ], λ x. elim x as (λ _. P w ⊎ IsExpandedIn cs i w) [ inl y ↦ inl ((h w).1 y) | inr y ↦ inr y ]))
      (r i c e)

  -- what is expanded before an occurrence below a child
  split_to : (P : ℕ → Type 0) (t c : OccurrenceTree) (i : ℕ) (a : Address) (w : ℕ) → slice_get (occurrence_kids t) i ≡ Some c
      → P w ⊎ IsExpandedBefore t (i ∷ a) w → ((P w ⊎ (t.node ≡ w)) ⊎ IsExpandedIn (occurrence_kids t) i w) ⊎ IsExpandedBefore c a w
  split_to P t c i a w e (inl x) = inl (inl (inl x))
  split_to P t c i a w e (inr ([], q, s, n, k, o)) = inl (inl (inr (ap (λ (z : OccurrenceTree). z.node) (stands_root t q s) ∙ n)))
  split_to P t c i a w e (inr (j ∷ b, q, s, n, k, inl l)) = let (x, f, r) = stands_step t q j b s in inl (inr (j, x, l, f, (b, q, r, n, k)))
  split_to P t c i a w e (inr (j ∷ b, q, s, n, k, inr (m, o))) =
      let (x, f, r) = stands_step t q j b s in
      let same : Some x ≡ Some c = sym f ∙ (ap (slice_get (occurrence_kids t)) m ∙ e) in
      let one : x ≡ c = cc in
      inr (b, q, subst (λ (z : OccurrenceTree). StandsAt z b q) one r, n, k, o)

  -- and the other way round
  split_from : (P : ℕ → Type 0) (t c : OccurrenceTree) (i : ℕ) (a : Address) (w : ℕ) → slice_get (occurrence_kids t) i ≡ Some c
      → ((P w ⊎ (t.node ≡ w)) ⊎ IsExpandedIn (occurrence_kids t) i w) ⊎ IsExpandedBefore c a w → P w ⊎ IsExpandedBefore t (i ∷ a) w
  split_from P t c i a w e (inl (inl (inl x))) = inl x
  split_from P t c i a w e (inl (inl (inr n))) = inr ([], t, refl, n, not_empty (occurrence_kids t) i c e, tt)
  split_from P t c i a w e (inl (inr (j, x, l, f, (b, q, r, n, k)))) = inr (j ∷ b, q, stands_cons t x q j b f r, n, k, inl l)
  split_from P t c i a w e (inr (b, q, r, n, k, o)) = inr (i ∷ b, q, stands_cons t c q i b e r, n, k, inr (refl, o))

  -- the row below an occurrence
  pub down : (P : ℕ → Type 0) (d : ℕ) (t : OccurrenceTree) → OnceFrom P (suc d) t → RowFrom (λ w. P w ⊎ (t.node ≡ w)) d (occurrence_kids t)
  down P d t o i c e = record {
    repeated = λ a p s. let m = o.repeated (i ∷ a) p (stands_cons t c p i a e s) in
        (λ x. split_to P t c i a p.node e (m.0 x), λ x. m.1 (split_from P t c i a p.node e x));
    children = λ a p s. o.children (i ∷ a) p (stands_cons t c p i a e s) ∙ ap (λ b. if p.repeated then [] else (if b then below p.node else [])) (less_suc (length a) d);
  }

  -- an occurrence over a row
  pub up : (P : ℕ → Type 0) (d : ℕ) (t : OccurrenceTree) → IsTrue t.repeated ↔ P t.node → nodes_of (occurrence_kids t) ≡ allowed (suc d) t 0
      → RowFrom (λ w. P w ⊎ (t.node ≡ w)) d (occurrence_kids t) → OnceFrom P (suc d) t
  up P d t m k r = record { repeated = marks; children = kids } where
    marks : (a : Address) (p : OccurrenceTree) → StandsAt t a p → IsTrue p.repeated ↔ (P p.node ⊎ IsExpandedBefore t a p.node)
    marks [] p s = subst (λ (z : OccurrenceTree). IsTrue z.repeated ↔ (P z.node ⊎ IsExpandedBefore t [] z.node)) (stands_root t p s)
        (λ x. inl (m.0 x), λ x. m.1 (elim x as (λ _. P t.node) [ inl y ↦ y | inr y ↦ absurd (y.5) ]))
    marks (i ∷ a) p s =
        let (c, e, u) = stands_step t p i a s in
        let n = (r i c e).repeated a p u in
        (λ x. split_from P t c i a p.node e (n.0 x), λ x. n.1 (split_to P t c i a p.node e x))

    kids : (a : Address) (p : OccurrenceTree) → StandsAt t a p → nodes_of (occurrence_kids p) ≡ allowed (suc d) p (length a)
    kids [] p s = subst (λ (z : OccurrenceTree). nodes_of (occurrence_kids z) ≡ allowed (suc d) z 0) (stands_root t p s) k
    kids (i ∷ a) p s =
        let (c, e, u) = stands_step t p i a s in
        (r i c e).children a p u ∙ ap (λ b. if p.repeated then [] else (if b then below p.node else [])) (sym (less_suc (length a) d))

  -- an occurrence with nothing below it
  pub alone : (P : ℕ → Type 0) (d : ℕ) (t : OccurrenceTree) → occurrence_kids t ≡ [] → IsTrue t.repeated ↔ P t.node → allowed d t 0 ≡ [] → OnceFrom P d t
  alone P d t e m k = record { repeated = marks; children = kids } where
    marks : (a : Address) (p : OccurrenceTree) → StandsAt t a p → IsTrue p.repeated ↔ (P p.node ⊎ IsExpandedBefore t a p.node)
    marks [] p s = subst (λ (z : OccurrenceTree). IsTrue z.repeated ↔ (P z.node ⊎ IsExpandedBefore t [] z.node)) (stands_root t p s)
        (λ x. inl (m.0 x), λ x. m.1 (elim x as (λ _. P t.node) [ inl y ↦ y | inr y ↦ absurd (y.5) ]))
    marks (i ∷ a) p s = let (c, f, u) = stands_step t p i a s in absurd (none_within (occurrence_kids t) i c e f)

    kids : (a : Address) (p : OccurrenceTree) → StandsAt t a p → nodes_of (occurrence_kids p) ≡ allowed d p (length a)
    kids [] p s = subst (λ (z : OccurrenceTree). nodes_of (occurrence_kids z) ≡ allowed d z 0) (stands_root t p s) (ap nodes_of e ∙ sym k)
    kids (i ∷ a) p s = let (c, f, u) = stands_step t p i a s in absurd (none_within (occurrence_kids t) i c e f)

  -- one occurrence more at the start of a row
  pub row_cons : (P : ℕ → Type 0) (d : ℕ) (c : OccurrenceTree) (cs : List OccurrenceTree) → OnceFrom P d c → RowFrom (λ w. P w ⊎ IsExpanded c w) d cs → RowFrom P d (c ∷ cs)
  row_cons P d c cs o r zero x e =
      let same : c ≡ x = cc in
      subst (λ (z : OccurrenceTree). OnceFrom (λ w. P w ⊎ IsExpandedIn (c ∷ cs) 0 w) d z) same
      (transfer P (λ w. P w ⊎ IsExpandedIn (c ∷ cs) 0 w) d c
      (λ w. (λ y. inl y, λ y. elim y as (λ _. P w) [ inl z ↦ z | inr z ↦ absurd (omega (arith, z.2)) ])) o)
  row_cons P d c cs o r (suc i) x e =
      transfer (λ w. (P w ⊎ IsExpanded c w) ⊎ IsExpandedIn cs i w) (λ w. P w ⊎ IsExpandedIn (c ∷ cs) (suc i) w) d x
      (λ w. (later_to P c cs i w, later_from P c cs i w)) (r i x e)

  -- the first of a row
  pub row_head : (P : ℕ → Type 0) (d : ℕ) (c : OccurrenceTree) (cs : List OccurrenceTree) → RowFrom P d (c ∷ cs) → OnceFrom P d c
  row_head P d c cs r =
      transfer (λ w. P w ⊎ IsExpandedIn (c ∷ cs) 0 w) P d c
      (λ w. (λ y. elim y as (λ _. P w) [ inl z ↦ z | inr z ↦ absurd (omega (arith, z.2)) ], λ y. inl y)) (r 0 c refl)

  -- the others, where the first one counts as before them
  pub row_tail : (P : ℕ → Type 0) (d : ℕ) (c : OccurrenceTree) (cs : List OccurrenceTree) → RowFrom P d (c ∷ cs) → RowFrom (λ w. P w ⊎ IsExpanded c w) d cs
  row_tail P d c cs r i x e =
      transfer (λ w. P w ⊎ IsExpandedIn (c ∷ cs) (suc i) w) (λ w. (P w ⊎ IsExpanded c w) ⊎ IsExpandedIn cs i w) d x
      (λ w. (later_from P c cs i w, later_to P c cs i w)) (r (suc i) x e)

-- Of the occurrences of one node above the depth exactly the first has its neighbours below it, and
-- a node without neighbours is never repeated.
use Rattle.std.specs.Prelude.{◌≢◌, if◌then◌else◌, nat_lt}
use Rattle.std.proofs.Common.{◌≡◌, ℕ, ◌<◌, inl, inr, Bool, true, false, List, [], ◌∷◌, map, length, refl, sym, ap, ◌∙◌, arith}
use Rattle.std.proofs.lemmas.Bool.{lt-ltb, le-ltb, cases_lt}
use Rattle.ptree.proofs.Graphs.ExpandedRows.{no_nodes}
use Rattle.ptree.specs.Address.{Address, Before}
use Rattle.ptree.specs.Occurrence.{OccurrenceTree, occurrence_kids, StandsAt, IsExpandedBefore, IsExpandedOnce, IsMetBefore, LeavesUnrepeated, ExpandsFirst}

-- the order of addresses is transitive
before_trans : (a b c : Address) → Before a b → Before b c → Before a c
before_trans a b [] h k = k
before_trans [] b (z ∷ c) h k = tt
before_trans (x ∷ a) [] (z ∷ c) h k = absurd h
before_trans (x ∷ a) (y ∷ b) (z ∷ c) (inl h) (inl k) = inl (omega arith)
before_trans (x ∷ a) (y ∷ b) (z ∷ c) (inl h) (inr k) = inl (omega (arith, k.0))
before_trans (x ∷ a) (y ∷ b) (z ∷ c) (inr h) (inl k) = inl (omega (arith, h.0))
before_trans (x ∷ a) (y ∷ b) (z ∷ c) (inr h) (inr k) = inr (h.0 ∙ k.0, before_trans a b c h.1 k.1)

module _ (below : ℕ → List ℕ) (start depth : ℕ) (t : OccurrenceTree) (h : IsExpandedOnce below start depth t) where
  -- the nodes below an occurrence, by whether it is repeated and above the depth
  abbrev chosen : Bool → Bool → ℕ → List ℕ
  chosen m l v = if m then [] else (if l then below v else [])

  -- a node without neighbours has nothing below it
  nothing : (m l : Bool) (v : ℕ) → below v ≡ [] → chosen m l v ≡ []
  nothing true l v e = refl
  nothing false true v e = e
  nothing false false v e = refl

  -- an occurrence with occurrences below it is above the depth
  above : (a : Address) (p : OccurrenceTree) → StandsAt t a p → occurrence_kids p ≢ [] → length a < depth
  above a p s k = elim (cases_lt (length a) depth) [
    | inl l ↦ l
    | inr l ↦ absurd (k (no_nodes (occurrence_kids p) (h.children a p s ∙ (ap (λ b. chosen p.repeated b p.node) (le-ltb (length a) depth l) ∙ at p.repeated p.node))))
  ] where
    at : (m : Bool) (v : ℕ) → chosen m false v ≡ []
    at true v = refl
    at false v = refl

  -- it is never repeated
  pub leaves_unrepeated : LeavesUnrepeated below t
  leaves_unrepeated a p s e = by_flag p.repeated refl where
    by_flag : (m : Bool) → p.repeated ≡ m → p.repeated ≡ false
    by_flag false f = f
    by_flag true f =
        let (b, q, r, n, k, o) = (h.repeated a p s).0 f in
        absurd (k (no_nodes (occurrence_kids q) (h.children b q r ∙ nothing q.repeated (nat_lt (length b) depth) q.node (ap below n ∙ e))))

  -- where an earlier occurrence is above the depth, an earlier one is expanded
  met_to_shown : (a : Address) (v : ℕ) → below v ≢ [] → IsMetBefore depth t a v → IsExpandedBefore t a v
  met_to_shown a v e (b, q, r, n, l, o) = by_flag q.repeated refl where
    by_flag : (m : Bool) → q.repeated ≡ m → IsExpandedBefore t a v
    by_flag true f =
        let (c, x, u, i, k, w) = (h.repeated b q r).0 f in
        (c, x, u, i ∙ n, k, before_trans c b a w o)
    by_flag false f =
        let is : map (λ (z : OccurrenceTree). z.node) (occurrence_kids q) ≡ below q.node =
        h.children b q r ∙ (ap (λ m. chosen m (nat_lt (length b) depth) q.node) f ∙ ap (λ b. chosen false b q.node) (lt-ltb (length b) depth l)) in
        (b, q, r, n, λ k. e (sym (ap below n) ∙ (sym is ∙ ap (map (λ (z : OccurrenceTree). z.node)) k)), o)

  -- and the other way round
  shown_to_met : (a : Address) (v : ℕ) → IsExpandedBefore t a v → IsMetBefore depth t a v
  shown_to_met a v (b, q, r, n, k, o) = (b, q, r, n, above b q r k, o)

  -- so exactly the first is expanded
  pub expands_first : ExpandsFirst below depth t
  expands_first a p s l e = (to, from) where
    to : occurrence_kids p ≢ [] → IsMetBefore depth t a p.node → ⊥
    to k m =
        let f : p.repeated ≡ true = (h.repeated a p s).1 (met_to_shown a p.node e m) in
        k (no_nodes (occurrence_kids p) (h.children a p s ∙ ap (λ b. chosen b (nat_lt (length a) depth) p.node) f))

    from : (IsMetBefore depth t a p.node → ⊥) → occurrence_kids p ≢ []
    from m k = by_flag p.repeated refl where
      by_flag : (b : Bool) → p.repeated ≡ b → ⊥
      by_flag true f = m (shown_to_met a p.node ((h.repeated a p s).0 f))
      by_flag false f =
          let is : map (λ (z : OccurrenceTree). z.node) (occurrence_kids p) ≡ below p.node =
          h.children a p s ∙ (ap (λ b. chosen b (nat_lt (length a) depth) p.node) f ∙ ap (λ b. chosen false b p.node) (lt-ltb (length a) depth l)) in
          e (sym is ∙ ap (map (λ (z : OccurrenceTree). z.node)) k)

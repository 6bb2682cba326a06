-- A graph expanded once: what the recursion makes meets the definition by addresses, and nothing
-- else does.
use Rattle.std.specs.Prelude.{slice_set, ◌↔◌, IsTrue, if◌then◌else◌, nat_lt}
use Rattle.std.proofs.Common.{◌≡◌, ℕ, zero, suc, ◌<◌, ◌≤◌, ◌⊎◌, inl, inr, Bool, true, false, List, [], ◌∷◌, length, refl, sym, ap, subst, ◌∙◌, arith}
use Rattle.std.proofs.lemmas.Bool.{false≢true, lt-ltb, cases_lt, cond_both}
use Rattle.ptree.specs.Growing.{Grown, grown, is_seen, row_occurrences, row_seen, expand, grow}
use Rattle.ptree.specs.Occurrence.{none, OccurrenceTree, occurrence, row, occurrence_kids, IsExpandedBefore, IsExpanded, IsExpandedOnce, HasOneTree}
use Rattle.ptree.proofs.Graphs.ExpandedRows.{nodes_of, no_nodes, rebuilt, none_within, IsExpandedAmong, shown_to, shown_from, allowed, OnceFrom, RowFrom, transfer_row, down, up, alone, row_cons, row_head, row_tail}
use Rattle.ptree.proofs.Graphs.NodeFlags.{IsSeen, seen_set, length_set, same_marks, AreClear}
use Rattle.ptree.proofs.Graphs.Occurrences.{occurrences_of_row}

module _ (below : ℕ → List ℕ) where
  module _ (n : ℕ) (covers : (v : ℕ) → n ≤ v → below v ≡ []) where
    -- what the recursion has to give
    pub record IsRight (seen : List Bool) (d v : ℕ) (g : Grown) : Type 0 where
      pub once : OnceFrom below (IsSeen seen) d g.occurrence
      pub node : g.occurrence.node ≡ v
      pub after : (w : ℕ) → IsSeen g.seen w ↔ (IsSeen seen w ⊎ IsExpanded g.occurrence w)
      pub flags : length g.seen ≡ n
      -- no other occurrence is
      pub only : (t : OccurrenceTree) → OnceFrom below (IsSeen seen) d t → t.node ≡ v → t ≡ g.occurrence

    -- and of a row
    record IsRightRow (seen : List Bool) (d : ℕ) (us : List ℕ) (ps : List OccurrenceTree) (last : List Bool) : Type 0 where
      once : RowFrom below (IsSeen seen) d ps
      nodes : nodes_of ps ≡ us
      after : (w : ℕ) → IsSeen last w ↔ (IsSeen seen w ⊎ IsExpandedAmong ps w)
      flags : length last ≡ n
      only : (ts : List OccurrenceTree) → RowFrom below (IsSeen seen) d ts → nodes_of ts ≡ us → ts ≡ ps

    -- it gives that from all flags, for all nodes
    abbrev pub AreRight : ℕ → (List Bool → ℕ → Grown) → Type 0
    AreRight d f = (seen : List Bool) (v : ℕ) → length seen ≡ n → IsRight seen d v (f seen v)

    -- an occurrence, and then a row
    module _ (seen : List Bool) (d u : ℕ) (us : List ℕ) (g : Grown) (ps : List OccurrenceTree) (last : List Bool) (first : IsRight seen d u g) (rest : IsRightRow g.seen d us ps last) where
      -- what is expanded after the row
      row_after_to : (w : ℕ) → IsSeen last w → IsSeen seen w ⊎ IsExpandedAmong (g.occurrence ∷ ps) w
      row_after_to w x = elim ((rest.after w).0 x) [
        | inl y ↦ elim ((first.after w).0 y) as (λ _. IsSeen seen w ⊎ IsExpandedAmong (g.occurrence ∷ ps) w) [ inl z ↦ inl z | inr z ↦ inr (0, g.occurrence, refl, z) ]
        | inr y ↦ inr (suc y.0, y.1, y.2, y.3)
      ]

      row_after_from : (w : ℕ) → IsSeen seen w ⊎ IsExpandedAmong (g.occurrence ∷ ps) w → IsSeen last w
      row_after_from w (inl y) = (rest.after w).1 (inl ((first.after w).1 (inl y)))
      row_after_from w (inr (zero, c, s, y)) =
          let q : g.occurrence ≡ c = cc in
          (rest.after w).1 (inl ((first.after w).1 (inr (subst (λ (z : OccurrenceTree). IsExpanded z w) (sym q) y))))
      row_after_from w (inr (suc j, c, s, y)) = (rest.after w).1 (inr (j, c, s, y))

      -- no other row is
      row_only : (ts : List OccurrenceTree) → RowFrom below (IsSeen seen) d ts → nodes_of ts ≡ u ∷ us → ts ≡ g.occurrence ∷ ps
      row_only [] r q = absurd (cc)
      row_only (t ∷ ts) r q =
          let here : t.node ≡ u = cc in
          let there : nodes_of ts ≡ us = cc in
          let one : t ≡ g.occurrence = first.only t (row_head below (IsSeen seen) d t ts r) here in
          let tail = subst (λ (z : OccurrenceTree). RowFrom below (λ w. IsSeen seen w ⊎ IsExpanded z w) d ts) one (row_tail below (IsSeen seen) d t ts r) in
          let moved = transfer_row below (λ w. IsSeen seen w ⊎ IsExpanded g.occurrence w) (IsSeen g.seen) d ts (λ w. ((first.after w).1, (first.after w).0)) tail in
          ap (λ z. z ∷ ts) one ∙ ap (λ z. g.occurrence ∷ z) (rest.only ts moved there)

      row_step : IsRightRow seen d (u ∷ us) (g.occurrence ∷ ps) last
      row_step = record {
        once = row_cons below (IsSeen seen) d g.occurrence ps first.once (transfer_row below (IsSeen g.seen) (λ w. IsSeen seen w ⊎ IsExpanded g.occurrence w) d ps first.after rest.once);
        nodes = ap (λ z. z ∷ nodes_of ps) first.node ∙ ap (λ z. u ∷ z) rest.nodes;
        after = λ w. (row_after_to w, row_after_from w);
        flags = rest.flags;
        only = row_only;
      }

    -- a row is right where each of its occurrences is
    rows : (d : ℕ) (f : List Bool → ℕ → Grown) → AreRight d f → (us : List ℕ) (seen : List Bool) → length seen ≡ n → IsRightRow seen d us (row_occurrences f seen us) (row_seen f seen us)
    rows d f h [] seen e = record {
      once = λ i c s. absurd (none_within [] i c refl s);
      nodes = refl;
      after = λ w. (λ x. inl x, λ x. elim x as (λ _. IsSeen seen w) [ inl y ↦ y | inr y ↦ absurd (none_within [] y.0 y.1 refl y.2) ]);
      flags = e;
      only = λ ts r q. no_nodes ts q;
    }
    rows d f h (u ∷ us) seen e =
        let first = h seen u e in
        row_step seen d u us (f seen u) (row_occurrences f (f seen u).seen us) (row_seen f (f seen u).seen us) first (rows d f h us (f seen u).seen first.flags)

    -- where nothing is below an occurrence, no node is expanded in it
    nothing_shown : (t : OccurrenceTree) (w : ℕ) → occurrence_kids t ≡ [] → IsExpanded t w → ⊥
    nothing_shown t w e x = elim (shown_to t w x) [ inl y ↦ y.1 e | inr y ↦ none_within (occurrence_kids t) y.0 y.1 e y.2 ]

    -- a root is repeated exactly where its node is expanded before
    root_repeated : (P : ℕ → Type 0) (d : ℕ) (t : OccurrenceTree) → OnceFrom below P d t → IsTrue t.repeated ↔ P t.node
    root_repeated P d t o = (λ x. elim ((o.repeated [] t refl).0 x) as (λ _. P t.node) [ inl y ↦ y | inr y ↦ absurd (y.5) ], λ x. (o.repeated [] t refl).1 (inl x))

    -- the mark of a root is its node's flag
    root_flag : (seen : List Bool) (d v : ℕ) (t : OccurrenceTree) → OnceFrom below (IsSeen seen) d t → t.node ≡ v → t.repeated ≡ is_seen seen v
    root_flag seen d v t o e = same_marks t.repeated (is_seen seen t.node) (root_repeated (IsSeen seen) d t o) ∙ ap (is_seen seen) e

    -- where nothing may be below an occurrence
    leaf_right : (seen : List Bool) (d v : ℕ) → length seen ≡ n → ((p : OccurrenceTree) → p.node ≡ v → p.repeated ≡ is_seen seen v → allowed below d p 0 ≡ [])
        → IsRight seen d v (grown (occurrence v (is_seen seen v) none) seen)
    leaf_right seen d v e h = record {
      once = alone below (IsSeen seen) d (occurrence v (is_seen seen v) none) refl (λ x. x, λ x. x) (h (occurrence v (is_seen seen v) none) refl refl);
      node = refl;
      after = λ w. (λ x. inl x, λ x. elim x as (λ _. IsSeen seen w) [ inl y ↦ y | inr y ↦ absurd (nothing_shown (occurrence v (is_seen seen v) none) w refl y) ]);
      flags = e;
      only = λ t o q. let f = root_flag seen d v t o q in
          rebuilt t v (is_seen seen v) [] q f (no_nodes (occurrence_kids t) (o.children [] t refl ∙ h t q f));
    }

    -- an occurrence over those of its node's neighbours
    module _ (seen : List Bool) (d v u : ℕ) (us : List ℕ) (f : List Bool → ℕ → Grown) (h : AreRight d f) (e : length seen ≡ n) (fresh : is_seen seen v ≡ false) (e' : below v ≡ u ∷ us) where
      -- a node with neighbours has a flag
      within : v < length seen
      within = elim (cases_lt v (length seen)) [
        | inl x ↦ x
        | inr x ↦ (let none : below v ≡ [] = covers v (omega arith) in let clash : u ∷ us ≡ [] = sym e' ∙ none in absurd (cc))
      ]

      -- the flags with that node's
      abbrev set : List Bool
      set = slice_set seen v true

      -- the row below it
      abbrev ps : List OccurrenceTree
      ps = row_occurrences f set (u ∷ us)

      -- the occurrence over that row
      abbrev whole : OccurrenceTree
      whole = occurrence v false (row ps)

      -- the row is right
      r : IsRightRow set d (u ∷ us) ps (row_seen f set (u ∷ us))
      r = rows d f h (u ∷ us) set (length_set seen v true ∙ e)

      -- a root may have something below it
      open_here : (p : OccurrenceTree) → (if nat_lt 0 (suc d) then below p.node else []) ≡ below p.node
      open_here p = ap (λ b. if b then below p.node else []) (lt-ltb 0 (suc d) (omega arith))

      -- the row is what is below the occurrence
      among : (w : ℕ) → IsExpandedAmong ps w ↔ IsExpandedAmong (occurrence_kids whole) w
      among w = (λ x. subst (λ (z : List OccurrenceTree). IsExpandedAmong z w) (sym (occurrences_of_row ps)) x, λ x. subst (λ (z : List OccurrenceTree). IsExpandedAmong z w) (occurrences_of_row ps) x)

      -- what is expanded after the occurrence
      after_to : (w : ℕ) → IsSeen (row_seen f set (u ∷ us)) w → IsSeen seen w ⊎ IsExpanded whole w
      after_to w x = elim ((r.after w).0 x) [
        | inl y ↦ elim ((seen_set seen v w within).0 y) as (λ _. IsSeen seen w ⊎ IsExpanded whole w) [ inl z ↦ inl z | inr z ↦ inr (shown_from whole w (inl (z, λ q. cc))) ]
        | inr y ↦ inr (shown_from whole w (inr ((among w).0 y)))
      ]

      after_from : (w : ℕ) → IsSeen seen w ⊎ IsExpanded whole w → IsSeen (row_seen f set (u ∷ us)) w
      after_from w (inl y) = (r.after w).1 (inl ((seen_set seen v w within).1 (inl y)))
      after_from w (inr y) = elim (shown_to whole w y) [
        | inl z ↦ (r.after w).1 (inl ((seen_set seen v w within).1 (inr z.0)))
        | inr z ↦ (r.after w).1 (inr ((among w).1 z))
      ]

      only : (t : OccurrenceTree) → OnceFrom below (IsSeen seen) (suc d) t → t.node ≡ v → t ≡ whole
      only t o q =
          let m : t.repeated ≡ false = root_flag seen (suc d) v t o q ∙ fresh in
          let kids : nodes_of (occurrence_kids t) ≡ u ∷ us =
          o.children [] t refl ∙ (ap (λ b. if b then [] else (if nat_lt 0 (suc d) then below t.node else [])) m ∙ (open_here t ∙ (ap below q ∙ e'))) in
          let row_is = down below (IsSeen seen) d t o in
          let moved = transfer_row below (λ w. IsSeen seen w ⊎ (t.node ≡ w)) (IsSeen set) d (occurrence_kids t)
          (λ w. (
            λ x. (seen_set seen v w within).1 (elim x as (λ _. IsSeen seen w ⊎ (v ≡ w)) [ inl y ↦ inl y | inr y ↦ inr (sym q ∙ y) ]),
            λ x. elim ((seen_set seen v w within).0 x) as (λ _. IsSeen seen w ⊎ (t.node ≡ w)) [ inl y ↦ inl y | inr y ↦ inr (q ∙ y) ],
          )) row_is in
          rebuilt t v false ps q m (r.only (occurrence_kids t) moved kids)

      -- the occurrence is right
      branch_right : IsRight seen (suc d) v (expand f (u ∷ us) seen v)
      branch_right = record {
        once = up below (IsSeen seen) d whole (λ x. absurd (false≢true x), λ x. absurd (false≢true (sym fresh ∙ x)))
            (ap nodes_of (occurrences_of_row ps) ∙ (r.nodes ∙ (sym e' ∙ sym (open_here whole))))
            (subst (λ (z : List OccurrenceTree). RowFrom below (λ w. IsSeen seen w ⊎ (v ≡ w)) d z) (sym (occurrences_of_row ps)) (transfer_row below (IsSeen set) (λ w. IsSeen seen w ⊎ (v ≡ w)) d ps (λ w. seen_set seen v w within) r.once));
        node = refl;
        after = λ w. (after_to w, after_from w);
        flags = r.flags;
        only = only;
      }

    -- one level more
    module _ (d : ℕ) (h : AreRight d (grow below d)) (seen : List Bool) (v : ℕ) (e : length seen ≡ n) where
      -- what the recursion gives, by the node's flag
      abbrev chosen : Bool → Grown
      chosen b = if b then grown (occurrence v true none) seen else expand (grow below d) (below v) seen v

      -- of a node that is not expanded yet
      by_list : (us : List ℕ) → below v ≡ us → is_seen seen v ≡ false → IsRight seen (suc d) v (expand (grow below d) us seen v)
      by_list [] q fresh =
          subst (λ (b : Bool). IsRight seen (suc d) v (grown (occurrence v b none) seen)) fresh
          (leaf_right seen (suc d) v e (λ p i m. cond_both p.repeated [] (if nat_lt 0 (suc d) then below p.node else []) (λ (us : List ℕ). us ≡ []) (λ _. refl)
          (λ _. cond_both (nat_lt 0 (suc d)) (below p.node) [] (λ (us : List ℕ). us ≡ []) (λ _. ap below i ∙ q) (λ _. refl))))
      by_list (u ∷ us) q fresh = branch_right seen d v u us (grow below d) h e fresh q

      -- of any node
      by_flag : (b : Bool) → is_seen seen v ≡ b → IsRight seen (suc d) v (chosen b)
      by_flag true s =
          subst (λ (b : Bool). IsRight seen (suc d) v (grown (occurrence v b none) seen)) s
          (leaf_right seen (suc d) v e (λ p i m. ap (λ b. if b then [] else (if nat_lt 0 (suc d) then below p.node else [])) (m ∙ s)))
      by_flag false s = by_list (below v) refl s

      -- so the recursion is right one level deeper
      step_right : IsRight seen (suc d) v (grow below (suc d) seen v)
      step_right = by_flag (is_seen seen v) refl

    -- and at each depth
    pub all_right : (d : ℕ) → AreRight d (grow below d)
    all_right zero seen v e = leaf_right seen 0 v e (λ p q m. cond_both p.repeated [] [] (λ (us : List ℕ). us ≡ []) (λ _. refl) (λ _. refl))
    all_right (suc d) seen v e = step_right d (all_right d) seen v e

-- ## The definition by addresses

module _ (below : ℕ → List ℕ) (seen : List Bool) (covers : (v : ℕ) → length seen ≤ v → below v ≡ []) (clear : AreClear seen) (start depth : ℕ) where
  -- so it is from clear flags
  pub right : IsRight below (length seen) covers seen depth start (grow below depth seen start)
  right = all_right below (length seen) covers depth seen start refl

  -- the definition, as one from nodes that are expanded before: there are none
  from_drawn : (t : OccurrenceTree) → IsExpandedOnce below start depth t → OnceFrom below (IsSeen seen) depth t
  from_drawn t h = record {
    repeated = λ a p s. (λ x. inr ((h.repeated a p s).0 x), λ x. (h.repeated a p s).1 (elim x as (λ _. IsExpandedBefore t a p.node) [ inl y ↦ absurd (false≢true (sym (clear.clear p.node) ∙ y)) | inr y ↦ y ]));
    children = h.children;
  }

  -- what the recursion makes is the graph expanded once
  pub grown_is_drawn : IsExpandedOnce below start depth (grow below depth seen start).occurrence
  grown_is_drawn =
      let o = right.once in
      let t = (grow below depth seen start).occurrence in
      record {
        root = right.node;
        repeated = λ a p s. (λ x. elim ((o.repeated a p s).0 x) as (λ _. IsExpandedBefore t a p.node) [ inl y ↦ absurd (false≢true (sym (clear.clear p.node) ∙ y)) | inr y ↦ y ], λ x. (o.repeated a p s).1 (inr x));
        children = o.children;
      }

  -- and nothing else is
  pub drawn_is_grown : (t : OccurrenceTree) → IsExpandedOnce below start depth t → t ≡ (grow below depth seen start).occurrence
  drawn_is_grown t h = right.only t (from_drawn t h) h.root

  -- so there is one tree, and no other
  pub one_tree : HasOneTree below start depth
  one_tree = ((grow below depth seen start).occurrence, grown_is_drawn, drawn_is_grown)

-- A graph expanded once has an occurrence for each edge from a node that is expanded, and one more.
use Rattle.std.specs.Prelude.{slice_set, ◌↔◌, IsTrue, if◌then◌else◌, filter, reverse, count_by, not, ◌==◌}
use Rattle.std.proofs.Common.{◌≡◌, ◌≢◌, ℕ, zero, suc, ◌+◌, ◌<◌, ◌≤◌, inl, inr, Bool, true, false, cond, List, [], ◌∷◌, length, refl, sym, ap, subst, ◌∙◌, arith, eqb-true, eq-eqb}
use Rattle.std.proofs.Math.Numerals.{one-add}
use Rattle.std.proofs.lemmas.Bool.{false≢true, cases_lt}
use Rattle.std.proofs.lemmas.List.{length-map}
use Rattle.std.proofs.lemmas.List.Sums.{length-filter}
use Rattle.std.proofs.lemmas.List.Sorted.{IsPermutation-reverse, sum_by-IsPermutation}
use Rattle.ptree.specs.Graph.{neighbors_of}
use Rattle.ptree.specs.Growing.{Grown, grown, is_seen, row_occurrences, row_seen, expand, grow}
use Rattle.ptree.specs.Occurrence.{none, OccurrenceTree, occurrence, row, IsExpanded, IsExpandedOnce, row_size, occurrence_count, HasSize}
use Rattle.ptree.proofs.Graphs.NodeFlags.{AreClear, IsSeen, seen_set, length_set, same_marks}
use Rattle.ptree.proofs.Graphs.Once.{right, drawn_is_grown}

-- how many pass a test, by recursion
abbrev tally : {X : Type 0} → (X → Bool) → List X → ℕ
tally p [] = 0
tally p (x ∷ xs) = cond (p x) 1 0 + tally p xs

-- one more element
tally_one : {X : Type 0} (x : X) (ys : List X) (n : ℕ) → length ys ≡ n → (b : Bool) → length (cond b (x ∷ ys) ys) ≡ cond b 1 0 + n
tally_one x ys n e true = omega (arith, e)
tally_one x ys n e false = omega (arith, e)

-- the recursion counts what passes
tally_is : {X : Type 0} (p : X → Bool) (xs : List X) → length (filter p xs) ≡ tally p xs
tally_is p [] = refl
tally_is p (x ∷ xs) = tally_one x (filter p xs) (tally p xs) (tally_is p xs) (p x)

-- the source of an edge is not seen
abbrev unseen : List Bool → ℕ × ℕ → Bool
unseen seen e = not (is_seen seen e.0)

-- a flag that is set
set_same : (seen : List Bool) (v w : ℕ) → v < length seen → w ≡ v → is_seen (slice_set seen v true) w ≡ true
set_same seen v w h e = (seen_set seen v w h).1 (inr (sym e))

-- any other flag
set_other : (seen : List Bool) (v w : ℕ) → v < length seen → w ≢ v → is_seen (slice_set seen v true) w ≡ is_seen seen w
set_other seen v w h e =
    let s = seen_set seen v w h in
    same_marks (is_seen (slice_set seen v true) w) (is_seen seen w) (λ x. elim (s.0 x) as (λ _. IsSeen seen w) [ inl y ↦ y | inr y ↦ absurd (e (sym y)) ], λ x. s.1 (inl x))

-- an edge is from v, or counts as before
one_split : (seen : List Bool) (v w : ℕ) → v < length seen → is_seen seen v ≡ false
    → cond (w == v) 1 0 + cond (not (is_seen (slice_set seen v true) w)) 1 0 ≡ cond (not (is_seen seen w)) 1 0
one_split seen v w h f = at (w == v) refl where
  at : (b : Bool) → (w == v) ≡ b → cond (w == v) 1 0 + cond (not (is_seen (slice_set seen v true) w)) 1 0 ≡ cond (not (is_seen seen w)) 1 0
  at true e =
      let q : w ≡ v = eqb-true w v e in
      let s : is_seen seen w ≡ false = ap (is_seen seen) q ∙ f in
      rw (e, set_same seen v w h q, s) refl
  at false e =
      let q : w ≢ v = λ k. false≢true (sym e ∙ eq-eqb w v k) in
      rw (e, set_other seen v w h q) (omega arith)

-- sums of two rows
add_split : (a b c x y z : ℕ) → a + b ≡ c → x + y ≡ z → (a + x) + (b + y) ≡ c + z
add_split a b c x y z h k = omega arith

-- the edges from v, and those from other nodes that are not seen
edges_split : (seen : List Bool) (v : ℕ) → v < length seen → is_seen seen v ≡ false → (es : List (ℕ × ℕ))
    → tally (λ e. e.0 == v) es + tally (unseen (slice_set seen v true)) es ≡ tally (unseen seen) es
edges_split seen v h f [] = refl
edges_split seen v h f (e ∷ es) = add_split _ _ _ _ _ _ (one_split seen v e.0 h f) (edges_split seen v h f es)

module _ (edges : List (ℕ × ℕ)) (n : ℕ) (covers : (v : ℕ) → n ≤ v → neighbors_of edges v ≡ []) where
  -- how many edges are from nodes that are not seen
  abbrev left : List Bool → ℕ
  left seen = tally (unseen seen) (reverse edges)

  -- a node has a neighbour for each edge from it
  degree : (v : ℕ) → length (neighbors_of edges v) ≡ tally (λ e. e.0 == v) (reverse edges)
  degree v = length-map (filter (λ e. e.0 == v) (reverse edges)) (λ e. e.1) ∙ tally_is (λ e. e.0 == v) (reverse edges)

  -- each occurrence takes an edge, but the root
  record IsSized (seen : List Bool) (g : Grown) : Type 0 where
    flags : length g.seen ≡ n
    size : occurrence_count g.occurrence + left g.seen ≡ suc (left seen)

  -- and so in a row
  record IsSizedRow (seen : List Bool) (us : List ℕ) (ps : List OccurrenceTree) (last : List Bool) : Type 0 where
    flags : length last ≡ n
    size : row_size (row ps) + left last ≡ length us + left seen

  -- from all flags, for all nodes
  abbrev AreSized : (List Bool → ℕ → Grown) → Type 0
  AreSized f = (seen : List Bool) (v : ℕ) → length seen ≡ n → IsSized seen (f seen v)

  -- a row of occurrences, each of which does
  sized_rows : (f : List Bool → ℕ → Grown) → AreSized f → (us : List ℕ) (seen : List Bool) → length seen ≡ n → IsSizedRow seen us (row_occurrences f seen us) (row_seen f seen us)
  sized_rows f h [] seen e = record { flags = e; size = refl }
  sized_rows f h (u ∷ us) seen e =
      let first = h seen u e in
      let rest = sized_rows f h us (f seen u).seen first.flags in
      record { flags = rest.flags; size = omega (arith, first.size, rest.size) }

  -- an occurrence with nothing below it
  sized_leaf : (seen : List Bool) (v : ℕ) (m : Bool) → length seen ≡ n → IsSized seen (grown (occurrence v m none) seen)
  sized_leaf seen v m e = record { flags = e; size = omega arith }

  -- one over its node's neighbours
  sized_branch : (seen : List Bool) (v : ℕ) (f : List Bool → ℕ → Grown) → AreSized f → length seen ≡ n → is_seen seen v ≡ false
      → (us : List ℕ) → neighbors_of edges v ≡ us → IsSized seen (expand f us seen v)
  sized_branch seen v f h e fresh [] q = sized_leaf seen v false e
  sized_branch seen v f h e fresh (u ∷ us) q =
      let within : v < length seen = elim (cases_lt v (length seen)) [
        | inl x ↦ x
        | inr x ↦ (let gone : neighbors_of edges v ≡ [] = covers v (omega arith) in let clash : u ∷ us ≡ [] = sym q ∙ gone in absurd (cc))
      ] in
      let rest = sized_rows f h (u ∷ us) (slice_set seen v true) (length_set seen v true ∙ e) in
      let many : length (u ∷ us) ≡ tally (λ e. e.0 == v) (reverse edges) = ap length (sym q) ∙ degree v in
      record { flags = rest.flags; size = omega (arith, rest.size, many, edges_split seen v within fresh (reverse edges)) }

  -- at each depth
  all_sized : (d : ℕ) → AreSized (grow (neighbors_of edges) d)
  all_sized zero seen v e = sized_leaf seen v (is_seen seen v) e
  all_sized (suc d) seen v e = sized_step d (all_sized d) seen v e where
    sized_step : (d : ℕ) → AreSized (grow (neighbors_of edges) d) → (seen : List Bool) (v : ℕ) → length seen ≡ n → IsSized seen (grow (neighbors_of edges) (suc d) seen v)
    sized_step d h seen v e = at (is_seen seen v) refl where
      at : (b : Bool) → is_seen seen v ≡ b → IsSized seen (if b then grown (occurrence v true none) seen else expand (grow (neighbors_of edges) d) (neighbors_of edges v) seen v)
      at true s = sized_leaf seen v true e
      at false s = sized_branch seen v (grow (neighbors_of edges) d) h e s (neighbors_of edges v) refl

-- what passes a test, and what fails it
count_all : (p : ℕ × ℕ → Bool) (es : List (ℕ × ℕ)) → tally p es + tally (λ e. not (p e)) es ≡ length es
count_all p [] = refl
count_all p (e ∷ es) = add_split _ _ _ _ _ _ (one (p e)) (count_all p es) ∙ one-add (length es) where
  one : (b : Bool) → cond b 1 0 + cond (not b) 1 0 ≡ 1
  one true = refl
  one false = refl

-- where each passes
count_none : (p : ℕ × ℕ → Bool) → ((e : ℕ × ℕ) → p e ≡ true) → (es : List (ℕ × ℕ)) → tally p es ≡ length es
count_none p h [] = refl
count_none p h (e ∷ es) = ap {B = ℕ} (λ b. cond b 1 0 + tally p es) (h e) ∙ (ap (λ n. 1 + n) (count_none p h es) ∙ one-add (length es))

module _ (edges : List (ℕ × ℕ)) (seen : List Bool) (covers : (v : ℕ) → length seen ≤ v → neighbors_of edges v ≡ []) (clear : AreClear seen) (start depth : ℕ) where
  -- the size of the one tree
  pub size_of_drawn : (t : OccurrenceTree) → IsExpandedOnce (neighbors_of edges) start depth t → HasSize edges t
  size_of_drawn t h =
      let below = neighbors_of edges in
      let g = grow below depth seen start in
      let shown : ℕ → Bool = is_seen g.seen in
      let same : t ≡ g.occurrence = drawn_is_grown below seen covers clear start depth t h in
      let sized = all_sized edges (length seen) covers depth seen start refl in
      let after = (right below seen covers clear start depth).after in
      let es = reverse edges in
      let all : tally (unseen seen) es ≡ length es = count_none (unseen seen) (λ e. ap not (clear.clear e.0)) es in
      let turned : tally (λ e. shown e.0) es ≡ count_by (λ e. shown e.0) edges =
      sym (tally_is (λ e. shown e.0) es) ∙ (length-filter (λ e. shown e.0) es ∙ sum_by-IsPermutation (λ e. cond (shown e.0) 1 0) edges es (IsPermutation-reverse edges)) in
      let size : occurrence_count g.occurrence + tally (unseen g.seen) es ≡ suc (tally (unseen seen) es) = sized.size in
      let sum : tally (λ e. shown e.0) es + tally (unseen g.seen) es ≡ length es = count_all (λ e. shown e.0) es in
      let whole : occurrence_count t ≡ occurrence_count g.occurrence = ap occurrence_count same in
      let count : occurrence_count t ≡ suc (count_by (λ e. shown e.0) edges) = omega arith in
      let is : (v : ℕ) → IsTrue (shown v) ↔ IsExpanded t v = λ v. (
        λ x. elim ((after v).0 x) as (λ _. IsExpanded t v) [ inl y ↦ absurd (false≢true (sym (clear.clear v) ∙ y)) | inr y ↦ subst (λ (z : OccurrenceTree). IsExpanded z v) (sym same) y ],
        λ x. (after v).1 (inr (subst (λ (z : OccurrenceTree). IsExpanded z v) same x)),
      ) in
      (shown, is, count)

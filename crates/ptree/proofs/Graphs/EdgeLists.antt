-- Lists of edges as pairs of numbers: neighbours, and the number of the newest edge.
use Rattle.std.specs.Prelude.{reverse, filter, slice_get, All}
use Rattle.std.proofs.Common.{◌≡◌, ◌≢◌, ℕ, zero, suc, ◌<◌, ◌≤◌, inl, inr, true, false, cond, List, [], ◌∷◌, ◌++◌, map, length, get_or, take, Some, sym, ◌∙◌, ap, subst, refl, eqb, append_assoc, arith}
use Rattle.std.proofs.Math.Seq.{take-suc, take-length}
use Rattle.std.proofs.lemmas.Bool.{eq-eqb, ne_eqb}
use Rattle.std.proofs.lemmas.Bool.Decides.{eqb_tells}
use Rattle.std.proofs.lemmas.List.{map-append, reverse-append, length-reverse, length-take, length-take-le}
use Rattle.std.proofs.lemmas.List.Elements.{All-head, All-tail}
use Rattle.std.proofs.lemmas.List.Sorted.{All-permutation, IsPermutation-reverse}
use Rattle.std.proofs.lemmas.Option.{slice_get_within, slice_get-get_or, get_or_from_slice_get}
use Rattle.ptree.specs.Graph.{neighbors_of}
use Rattle.ptree.specs.GraphLinks.{first_from, newest_from}

-- what is pushed comes first in the reversed list
reverse-push : {X : Type 0} (xs : List X) (x : X) → reverse (xs ++ x ∷ []) ≡ x ∷ reverse xs
reverse-push xs x = reverse-append xs (x ∷ [])

-- the number of the newest edge is at most the number of edges
first_from-le-length : (edges : List (ℕ × ℕ)) (v : ℕ) → first_from edges v ≤ length edges
first_from-le-length [] v = omega arith
first_from-le-length (e ∷ older) v =
    elim (eqb e.0 v) as (λ b. cond b (suc (length older)) (first_from older v) ≤ suc (length older)) [
      | true ↦ omega arith
      | false ↦ omega (arith, first_from-le-length older v)
    ]

-- the number of the newest edge is at most the number of edges
pub newest_from-le-length : (edges : List (ℕ × ℕ)) (v : ℕ) → newest_from edges v ≤ length edges
newest_from-le-length edges v = omega (arith, first_from-le-length (reverse edges) v, length-reverse edges)

-- if no edge is from a node, its newest edge is 0
first_from-none : (edges : List (ℕ × ℕ)) (v : ℕ) → All (λ e. e.0 ≢ v) edges → first_from edges v ≡ 0
first_from-none [] v h = refl
first_from-none (e ∷ older) v h =
    ap (λ b. cond b (suc (length older)) (first_from older v)) (ne_eqb e.0 v (All-head (λ x. x.0 ≢ v) e older h))
    ∙ first_from-none older v (All-tail (λ x. x.0 ≢ v) e older h)

-- no edge is from v
pub newest_from-none : (edges : List (ℕ × ℕ)) (v : ℕ) → All (λ e. e.0 ≢ v) edges → newest_from edges v ≡ 0
newest_from-none edges v h =
    first_from-none (reverse edges) v (All-permutation (λ e. e.0 ≢ v) edges (reverse edges) (IsPermutation-reverse edges) h)

-- one more edge, from v
pub newest_from-push_same : (edges : List (ℕ × ℕ)) (e : ℕ × ℕ) (v : ℕ) → e.0 ≡ v → newest_from (edges ++ e ∷ []) v ≡ suc (length edges)
newest_from-push_same edges e v h =
    ap (λ r. first_from r v) (reverse-push edges e)
    ∙ ap (λ b. cond b (suc (length (reverse edges))) (first_from (reverse edges) v)) (eq-eqb e.0 v h)
    ∙ ap suc (length-reverse edges)

-- one more edge, from another node
pub newest_from-push_other : (edges : List (ℕ × ℕ)) (e : ℕ × ℕ) (v : ℕ) → e.0 ≢ v → newest_from (edges ++ e ∷ []) v ≡ newest_from edges v
newest_from-push_other edges e v h =
    ap (λ r. first_from r v) (reverse-push edges e)
    ∙ ap (λ b. cond b (suc (length (reverse edges))) (first_from (reverse edges) v)) (ne_eqb e.0 v h)

-- the edges from a node
abbrev from : ℕ → List (ℕ × ℕ) → List (ℕ × ℕ)
from v edges = filter (λ e. eqb e.0 v) edges

-- an edge from the node adds its target at the start
neighbors_of-push_same : (edges : List (ℕ × ℕ)) (e : ℕ × ℕ) (v : ℕ) → e.0 ≡ v → neighbors_of (edges ++ e ∷ []) v ≡ e.1 ∷ neighbors_of edges v
neighbors_of-push_same edges e v h =
    ap (λ r. map (λ x. x.1) (from v r)) (reverse-push edges e)
    ∙ ap (λ b. map (λ x. x.1) (cond b (e ∷ from v (reverse edges)) (from v (reverse edges)))) (eq-eqb e.0 v h)

-- an edge from another node adds none
neighbors_of-push_other : (edges : List (ℕ × ℕ)) (e : ℕ × ℕ) (v : ℕ) → e.0 ≢ v → neighbors_of (edges ++ e ∷ []) v ≡ neighbors_of edges v
neighbors_of-push_other edges e v h =
    ap (λ r. map (λ x. x.1) (from v r)) (reverse-push edges e)
    ∙ ap (λ b. map (λ x. x.1) (cond b (e ∷ from v (reverse edges)) (from v (reverse edges)))) (ne_eqb e.0 v h)

-- m is the number of the newest of the first n edges from v: no later one of them is from v
pub newest_settles : (edges : List (ℕ × ℕ)) (v n m : ℕ) → n ≤ length edges → m ≡ newest_from (take n edges) v
    → (neighbors_of (take m edges) v ≡ neighbors_of (take n edges) v) × (m ≡ newest_from (take m edges) v)
newest_settles edges v zero m h k = subst (λ (j : ℕ). (neighbors_of (take j edges) v ≡ []) × (j ≡ newest_from (take j edges) v)) (sym k) (refl, refl)
newest_settles edges v (suc n) m h k =
    let e = get_or edges n (0, 0) in
    let within : n < length edges = omega arith in
    let more : take (suc n) edges ≡ take n edges ++ e ∷ [] = take-suc edges n (0, 0) within in
    elim (eqb_tells e.0 v) [
      | inl t ↦
          let at_end : newest_from (take (suc n) edges) v ≡ suc n =
          ap (λ l. newest_from l v) more ∙ newest_from-push_same (take n edges) e v t.1 ∙ ap suc (length-take-le n edges (omega arith)) in
          subst (λ (j : ℕ). (neighbors_of (take j edges) v ≡ neighbors_of (take (suc n) edges) v) × (j ≡ newest_from (take j edges) v)) (sym (k ∙ at_end)) (refl, sym at_end)
      | inr t ↦
          let before = newest_settles edges v n m (omega arith) (k ∙ ap (λ l. newest_from l v) more ∙ newest_from-push_other (take n edges) e v t.1) in (
            before.0 ∙ sym (ap (λ l. neighbors_of l v) more ∙ neighbors_of-push_other (take n edges) e v t.1),
            before.1,
          )
    ]

-- the newest of the first edges from v, and the edges before it
pub newest_splits : (edges : List (ℕ × ℕ)) (v i : ℕ) (e : ℕ × ℕ) → slice_get edges i ≡ Some e → suc i ≡ newest_from (take (suc i) edges) v
    → (e.0 ≡ v) × (neighbors_of (take (suc i) edges) v ≡ e.1 ∷ neighbors_of (take i edges) v)
newest_splits edges v i e h k =
    let within = slice_get_within edges i e h in
    let more : take (suc i) edges ≡ take i edges ++ e ∷ [] =
    take-suc edges i e within ∙ ap (λ x. take i edges ++ x ∷ []) (get_or_from_slice_get edges i e e h) in
    elim (eqb_tells e.0 v) [
      | inl t ↦ (t.1, ap (λ l. neighbors_of l v) more ∙ neighbors_of-push_same (take i edges) e v t.1)
      | inr t ↦
          let fewer : suc i ≡ newest_from (take i edges) v = k ∙ ap (λ l. newest_from l v) more ∙ newest_from-push_other (take i edges) e v t.1 in
          absurd (omega (arith, newest_from-le-length (take i edges) v, length-take-le i edges (omega arith)))
    ]

-- a number that is that of the newest edge among the edges up to it is an edge's, or 0
pub newest_within : (edges : List (ℕ × ℕ)) (v m : ℕ) → m ≡ newest_from (take m edges) v → m ≤ length edges
newest_within edges v m h = omega (arith, newest_from-le-length (take m edges) v, length-take m edges)

-- the newest of all edges from v
pub newest_starts : (edges : List (ℕ × ℕ)) (v m : ℕ) → m ≡ newest_from edges v
    → (neighbors_of (take m edges) v ≡ neighbors_of edges v) × (m ≡ newest_from (take m edges) v)
newest_starts edges v m h =
    subst (λ (l : List (ℕ × ℕ)). (neighbors_of (take m edges) v ≡ neighbors_of l v) × (m ≡ newest_from (take m edges) v)) (take-length edges)
    (newest_settles edges v (length edges) m (omega arith) (h ∙ ap (λ l. newest_from l v) (sym (take-length edges))))

-- a node with a newest edge has neighbours
pub newest_has : (edges : List (ℕ × ℕ)) (v m : ℕ) → m ≡ newest_from edges v → m ≢ 0 → neighbors_of edges v ≢ []
newest_has edges v zero h k = λ e. k refl
newest_has edges v (suc i) h k =
    let start = newest_starts edges v (suc i) h in
    let e = get_or edges i (0, 0) in
    let split = newest_splits edges v i e (slice_get-get_or edges i (0, 0) (omega (arith, newest_within edges v (suc i) start.1))) start.1 in
    λ none. let clash : e.1 ∷ neighbors_of (take i edges) v ≡ [] = sym split.1 ∙ (start.0 ∙ none) in cc

-- one more target was returned, and the rest is the same
pub given_more : {X Y : Type 0} (f : X → Y) (items new : List X) (x : X) (before rest all : List Y) → new ≡ items ++ x ∷ [] → before ≡ f x ∷ rest → map f items ++ before ≡ all → map f new ++ rest ≡ all
given_more f items new x before rest all n b h =
    ap (λ ys. map f ys ++ rest) n ∙ ap (λ ys. ys ++ rest) (map-append f items (x ∷ [])) ∙ append_assoc (map f items) (f x ∷ []) rest
    ∙ ap (λ ys. map f items ++ ys) (sym b) ∙ h

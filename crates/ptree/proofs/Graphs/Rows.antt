-- The loop over the edges from a node, newest first, and the occurrences of their targets.
use Rattle.std.specs.Prelude.{slice_set, ◌≢◌}
use Rattle.std.proofs.lemmas.Bool.Decides.{nat_tests}
use Rattle.std.proofs.Common.{◌≡◌, ℕ, zero, suc, ◌-◌, ◌<◌, Bool, true, false, List, [], ◌∷◌, length, take, ap, refl, sym, ◌∙◌, eqb, get_or, arith}
use Rattle.std.proofs.lemmas.Option.{slice_get-get_or}
use Rattle.ptree.specs.declared.graph.Edge.{Edge}
use Rattle.ptree.specs.declared.graph.Graph.{Graph}
use Rattle.ptree.specs.Graph.{edges_of, neighbors_of}
use Rattle.ptree.specs.GraphLinks.{newest_from}
use Rattle.ptree.specs.Growing.{Grown, enter, row_occurrences, row_seen, grow, kids_grown, kids_seen}
use Rattle.ptree.proofs.Graphs.EdgeLists.{newest_starts, newest_within, newest_has, newest_splits}
use Rattle.ptree.proofs.Graphs.Growth.{entered}
use Rattle.ptree.proofs.Graphs.Links.{linked-step}

-- whether the edge after which no more come is reached
last_tells : (edges : List (ℕ × ℕ)) (v m : ℕ) → m ≡ newest_from (take m edges) v → eqb m 0 ≡ eqb (length (neighbors_of (take m edges) v)) 0
last_tells edges v zero h = refl
last_tells edges v (suc i) h =
    let e = get_or edges i (0, 0) in
    let split = newest_splits edges v i e (slice_get-get_or edges i (0, 0) (omega (arith, newest_within edges v (suc i) h))) h in
    let one : eqb (suc i) 0 ≡ false = grind (arith, nat_tests) in
    let other : eqb (length (e.1 ∷ neighbors_of (take i edges) v)) 0 ≡ false = grind (arith, nat_tests) in
    one ∙ sym (ap (λ us. eqb (length us) 0) split.1 ∙ other)

-- there are as many occurrences as nodes
length_row : (f : List Bool → ℕ → Grown) (seen : List Bool) (us : List ℕ) → length (row_occurrences f seen us) ≡ length us
length_row f seen [] = refl
length_row f seen (u ∷ us) = ap suc (length_row f (f seen u).seen us)

module _ {N : Type 0} (g : Graph N) (levels v : ℕ) where
  -- the occurrence of a node
  abbrev one : List Bool → ℕ → Grown
  one = grow (neighbors_of (edges_of g)) levels

  -- the targets of the first edges
  abbrev left : ℕ → List ℕ
  left m = neighbors_of (take m (edges_of g)) v

  -- once the node is seen, the targets are its neighbours
  pub row_starts : (m : ℕ) (seen now : List Bool) → m ≡ newest_from (edges_of g) v → m ≢ 0 → now ≡ slice_set seen v true
      → (row_occurrences one now (left m) ≡ kids_grown (neighbors_of (edges_of g)) levels seen v) × (row_seen one now (left m) ≡ kids_seen (neighbors_of (edges_of g)) levels seen v)
      × (m ≡ newest_from (take m (edges_of g)) v)
  row_starts m seen now is some set =
      let below = neighbors_of (edges_of g) in
      let start = newest_starts (edges_of g) v m is in
      let begun : now ≡ enter (below v) seen v = set ∙ sym (entered (below v) seen v (newest_has (edges_of g) v m is some)) in (
        ap (λ s. row_occurrences one s (left m)) begun ∙ ap (row_occurrences one (enter (below v) seen v)) start.0,
        ap (λ s. row_seen one s (left m)) begun ∙ ap (row_seen one (enter (below v) seen v)) start.0,
        start.1,
      )

  -- the occurrence of the next target, and those after it
  pub row_next : (m : ℕ) (e : Edge) (seen now : List Bool) → 0 < m → m ≡ newest_from (take m (edges_of g)) v → e ≡ get_or g.edges.items (m - 1) e → now ≡ (one seen e.target).seen
      → (row_occurrences one seen (left m) ≡ (one seen e.target).occurrence ∷ row_occurrences one now (left e.next)) × (row_seen one now (left e.next) ≡ row_seen one seen (left m))
      × (e.next ≡ newest_from (take e.next (edges_of g)) v) × (eqb e.next 0 ≡ eqb (length (row_occurrences one now (left e.next))) 0)
  row_next m e seen now some newest here after =
      let step = linked-step _ _ v m e g.linked some newest here in (
        ap (row_occurrences one seen) step.0 ∙ ap (λ s. (one seen e.target).occurrence ∷ row_occurrences one s (left e.next)) (sym after),
        ap (λ s. row_seen one s (left e.next)) after ∙ ap (row_seen one seen) (sym step.0),
        step.1,
        last_tells (edges_of g) v e.next step.1 ∙ ap (λ n. eqb n 0) (sym (length_row one now (left e.next))),
      )

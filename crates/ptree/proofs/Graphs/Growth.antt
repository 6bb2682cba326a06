-- The loop that makes the occurrences of a graph expanded once.
use Rattle.std.specs.Prelude.{slice_set, replicate, if◌then◌else◌, ◌≢◌}
use Rattle.std.proofs.Common.{◌≡◌, ◌⊎◌, inl, inr, ℕ, zero, suc, ◌-◌, ◌≤◌, Bool, true, false, List, [], ◌∷◌, ◌++◌, length, ap, refl, sym, subst, ◌∙◌, arith}
use Rattle.ptree.specs.declared.graph.Graph.{Graph}
use Rattle.ptree.specs.declared.graph.places.Place.{Place}
use Rattle.ptree.specs.Graph.{weights_of, edges_of, neighbors_of}
use Rattle.ptree.specs.GraphLinks.{newest_from}
use Rattle.ptree.specs.Growing.{Grown, grown, is_seen, enter, row_occurrences, row_seen, expand, grow, all_flags, place_of, leaf_size, AppendsPlaces}
use Rattle.ptree.specs.Occurrence.{OccurrenceTree, none, occurrence, row, IsExpandedOnce, HasOneTree, HasSize}
use Rattle.ptree.proofs.Graphs.EdgeLists.{newest_starts}
use Rattle.ptree.proofs.Graphs.Links.{newest_of_none}
use Rattle.ptree.proofs.Graphs.NodeFlags.{AreClear, seen_none}
use Rattle.ptree.proofs.Graphs.Once.{grown_is_drawn, one_tree}
use Rattle.ptree.proofs.Graphs.Places.{appends_leaf}
use Rattle.ptree.proofs.Graphs.Sizes.{size_of_drawn}
use Rattle.std.proofs.lemmas.List.{length-map, length-replicate, append-nil}

module _ (below : ℕ → List ℕ) where
  -- at the depth
  grow_zero : (levels : ℕ) (seen : List Bool) (v : ℕ) → levels ≡ 0 → grow below levels seen v ≡ grown (occurrence v (is_seen seen v) none) seen
  grow_zero levels seen v e = ap (λ n. grow below n seen v) e

  -- of a node that is expanded already
  grow_seen : (levels : ℕ) (seen : List Bool) (v : ℕ) → is_seen seen v ≡ true → grow below levels seen v ≡ grown (occurrence v (is_seen seen v) none) seen
  grow_seen zero seen v e = refl
  grow_seen (suc levels) seen v e =
      ap (λ b. if b then grown (occurrence v true none) seen else expand (grow below levels) (below v) seen v) e ∙ ap (λ b. grown (occurrence v b none) seen) (sym e)

  -- of one that is not, above the depth
  pub grow_next : (levels : ℕ) (seen : List Bool) (v : ℕ) → levels ≢ 0 → is_seen seen v ≡ false → grow below levels seen v ≡ expand (grow below (levels - 1)) (below v) seen v
  grow_next zero seen v h e = absurd (h refl)
  grow_next (suc levels) seen v h e =
      let less : levels ≡ suc levels - 1 = omega arith in
      ap (λ b. if b then grown (occurrence v true none) seen else expand (grow below levels) (below v) seen v) e ∙ ap (λ n. expand (grow below n) (below v) seen v) less

  -- nothing may be below the occurrence
  pub stopped : (levels : ℕ) (seen : List Bool) (v : ℕ) → (is_seen seen v ≡ true) ⊎ (levels ≡ 0) → grow below levels seen v ≡ grown (occurrence v (is_seen seen v) none) seen
  stopped levels seen v h = elim h [ inl y ↦ grow_seen levels seen v y | inr y ↦ grow_zero levels seen v y ]

  -- the node has no neighbours
  pub without : (levels : ℕ) (seen : List Bool) (v : ℕ) → levels ≢ 0 → is_seen seen v ≡ false → below v ≡ [] → grow below levels seen v ≡ grown (occurrence v false none) seen
  without levels seen v h s q = grow_next levels seen v h s ∙ ap (λ us. expand (grow below (levels - 1)) us seen v) q

  -- all neighbours have their occurrences
  pub grown_all : (levels : ℕ) (seen last : List Bool) (v : ℕ) (ts : List OccurrenceTree) (left : List ℕ) → levels ≢ 0 → is_seen seen v ≡ false → left ≡ []
      → ts ++ row_occurrences (grow below (levels - 1)) last left ≡ row_occurrences (grow below (levels - 1)) (enter (below v) seen v) (below v)
      → row_seen (grow below (levels - 1)) last left ≡ row_seen (grow below (levels - 1)) (enter (below v) seen v) (below v)
      → grow below levels seen v ≡ grown (occurrence v false (row ts)) last
  grown_all levels seen last v ts left h s l p q =
      let one = grow below (levels - 1) in
      let made : ts ≡ row_occurrences one (enter (below v) seen v) (below v) =
      sym (append-nil ts) ∙ (ap (λ us. ts ++ row_occurrences one last us) (sym l) ∙ p) in
      let ends : last ≡ row_seen one (enter (below v) seen v) (below v) = ap (row_seen one last) (sym l) ∙ q in
      grow_next levels seen v h s
      ∙ (ap (λ us. grown (occurrence v false (row us)) (row_seen one (enter (below v) seen v) (below v))) (sym made)
      ∙ ap (λ z. grown (occurrence v false (row ts)) z) (sym ends))

-- what a place with nothing below it is
pub leaf_made : (g : Grown) (xs ys : List Place) (v : ℕ) (m : Bool) (last : List Bool) → g ≡ grown (occurrence v m none) last → ys ≡ xs ++ place_of v (leaf_size m) ∷ [] → AppendsPlaces xs ys (g.occurrence ∷ [])
leaf_made g xs ys v m last e h = subst (λ (z : OccurrenceTree). AppendsPlaces xs ys (z ∷ [])) (ap (λ (z : Grown). z.occurrence) (sym e)) (appends_leaf xs ys v m h)

-- what a place over others is
pub row_made : (g : Grown) (xs ys : List Place) (v : ℕ) (ts : List OccurrenceTree) (last : List Bool) → g ≡ grown (occurrence v false (row ts)) last → AppendsPlaces xs ys (occurrence v false (row ts) ∷ []) → AppendsPlaces xs ys (g.occurrence ∷ [])
row_made g xs ys v ts last e h = subst (λ (z : OccurrenceTree). AppendsPlaces xs ys (z ∷ [])) (ap (λ (z : Grown). z.occurrence) (sym e)) h

-- which nodes are seen after it
pub seen_made : (g : Grown) (t : OccurrenceTree) (last now : List Bool) → g ≡ grown t last → now ≡ last → now ≡ g.seen
seen_made g t last now e h = h ∙ ap (λ (z : Grown). z.seen) (sym e)

-- a node with neighbours is entered so
pub entered : (us : List ℕ) (seen : List Bool) (v : ℕ) → us ≢ [] → enter us seen v ≡ slice_set seen v true
entered [] seen v h = absurd (h refl)
entered (u ∷ us) seen v h = refl

module _ {N : Type 0} (g : Graph N) where
  -- the neighbours in the graph
  abbrev under : ℕ → List ℕ
  under = neighbors_of (edges_of g)

  -- its flags, none of which is set
  abbrev flags : List Bool
  flags = replicate (length (weights_of g)) false

  -- a number that is no node's has no neighbours
  no_neighbors : (v : ℕ) → length (weights_of g) ≤ v → under v ≡ []
  no_neighbors v h =
      let counted = length-map g.nodes.items (λ n. n.weight) in
      let never : newest_from (edges_of g) v ≡ 0 = newest_of_none g.nodes.items g.edges.items v g.linked (omega (arith, counted)) in
      sym (newest_starts (edges_of g) v 0 (sym never)).0

  -- the same by the flags
  covered : (v : ℕ) → length flags ≤ v → under v ≡ []
  covered v h = no_neighbors v (omega (arith, length-replicate (length (weights_of g)) false))

  -- none that is there is all of them
  pub no_flags : all_flags (length (weights_of g)) [] ≡ flags
  no_flags = let e : length (weights_of g) - 0 ≡ length (weights_of g) = omega arith in ap (λ n. replicate n false) e

  -- no flag is set
  all_clear : AreClear flags
  all_clear = record { clear = seen_none (length (weights_of g)) }

  -- what is made from flags of which none is set is the graph expanded once
  pub made_is_drawn : (start depth : ℕ) (p : OccurrenceTree) → p ≡ (grow under depth flags start).occurrence → IsExpandedOnce under start depth p
  made_is_drawn start depth p e = subst (λ (z : OccurrenceTree). IsExpandedOnce under start depth z) (sym e) (grown_is_drawn under flags covered all_clear start depth)

  -- a graph has one tree, and no other
  pub graph_has_one : (start depth : ℕ) → HasOneTree under start depth
  graph_has_one start depth = one_tree under flags covered all_clear start depth

  -- two trees that are the graph expanded once are one
  pub only_one : (start depth levels : ℕ) (t u : OccurrenceTree) → IsExpandedOnce under start levels t → IsExpandedOnce under start depth u → levels ≡ depth → t ≡ u
  only_one start depth levels t u h k e =
      let (s, is, only) = graph_has_one start depth in
      only t (subst (λ d. IsExpandedOnce under start d t) e h) ∙ sym (only u k)

  -- what is the graph expanded once is what is made from flags of which none is set
  pub is_grown : (start depth : ℕ) (t : OccurrenceTree) → IsExpandedOnce under start depth t → t ≡ (grow under depth (all_flags (length (weights_of g)) []) start).occurrence
  is_grown start depth t h = only_one start depth depth t _ h (made_is_drawn start depth _ (ap (λ seen. (grow under depth seen start).occurrence) no_flags)) refl

  -- what holds of what is made so holds of what is the graph expanded once
  pub of_expanded : (start depth : ℕ) (P : OccurrenceTree → Type 0) → P (grow under depth (all_flags (length (weights_of g)) []) start).occurrence
      → (t : OccurrenceTree) → IsExpandedOnce under start depth t → P t
  of_expanded start depth P h t is = subst P (sym (is_grown start depth t is)) h

  -- the size of that tree
  pub made_has_size : (start depth : ℕ) (t : OccurrenceTree) → IsExpandedOnce under start depth t → HasSize (edges_of g) t
  made_has_size start depth t h = size_of_drawn (edges_of g) flags covered all_clear start depth t h

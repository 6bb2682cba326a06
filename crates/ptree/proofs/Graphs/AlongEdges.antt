-- A graph that is drawn along its edges, with each node expanded once.
use Rattle.std.specs.Prelude.{if◌then◌else◌, ◌≢◌, OnOk, slice_get}
use Rattle.std.specs.Io.KnownBytes.{Appends}
use Rattle.std.specs.List.{concat}
use Rattle.std.proofs.Common.{◌≡◌, ℕ, zero, suc, ◌-◌, Bool, true, false, Option, Some, Result, Ok, Err, List, [], ◌++◌, length, map, ap, refl, sym, subst, ◌∙◌}
use Rattle.std.proofs.lemmas.List.{append-nil}
use Rattle.ptree.specs.declared.sink.DrawError.{DrawError}
use Rattle.ptree.specs.declared.graph.Graph.{Graph}
use Rattle.ptree.specs.Drawing.{Look}
use Rattle.ptree.specs.Entries.{kid_entries, entries_below, item_entries}
use Rattle.ptree.specs.Graph.{weights_of, edges_of, neighbors_of}
use Rattle.ptree.specs.Growing.{Grown, grown, is_seen, grow, kids_grown, kids_seen, leaf_shape, flags_of}
use Rattle.ptree.specs.Looks.{own_entry}
use Rattle.ptree.specs.Occurrence.{OccurrenceTree, none, occurrence, row, occurrence_kids, occurrence_own, occurrence_shape}
use Rattle.ptree.specs.Pieces.{passing_piece}
use Rattle.ptree.specs.Shape.{Shape, kids}
use Rattle.ptree.specs.Writing.{AreWritten}
use Rattle.ptree.proofs.Drawing.Engine.{AreBegun, item_written, all_below, leaf_written}
use Rattle.ptree.proofs.Graphs.Growth.{grow_next, without}
use Rattle.ptree.proofs.Graphs.NodeFlags.{seen_all}
use Rattle.ptree.proofs.Graphs.Occurrences.{occurrences_of_row}
use Rattle.ptree.proofs.Trees.Shapes.{kids_of_unfold}

module _ (below : ℕ → List ℕ) where
  -- an occurrence is one of its node
  grown_node : (levels : ℕ) (seen : List Bool) (v : ℕ) → (grow below levels seen v).occurrence.node ≡ v
  grown_node zero seen v = refl
  grown_node (suc levels) seen v = elim (is_seen seen v) as (λ b. (if b then grown (occurrence v true none) seen else grown (occurrence v false (row (kids_grown below levels seen v))) (kids_seen below levels seen v)).occurrence.node ≡ v) [ true ↦ refl | false ↦ refl ]

  -- and repeated where that is seen
  grown_mark : (levels : ℕ) (seen : List Bool) (v : ℕ) → (grow below levels seen v).occurrence.repeated ≡ is_seen seen v
  grown_mark zero seen v = refl
  grown_mark (suc levels) seen v = elim (is_seen seen v) as (λ b. (if b then grown (occurrence v true none) seen else grown (occurrence v false (row (kids_grown below levels seen v))) (kids_seen below levels seen v)).occurrence.repeated ≡ b) [ true ↦ refl | false ↦ refl ]

  -- what is below one that is expanded here
  kids_below : (levels : ℕ) (seen : List Bool) (v : ℕ) → levels ≢ 0 → is_seen seen v ≡ false → occurrence_kids (grow below levels seen v).occurrence ≡ kids_grown below (levels - 1) seen v
  kids_below levels seen v h s = ap (λ (g : Grown). occurrence_kids g.occurrence) (grow_next below levels seen v h s) ∙ occurrences_of_row (kids_grown below (levels - 1) seen v)

  -- which nodes are seen after it
  pub seen_below : (levels : ℕ) (seen : List Bool) (v : ℕ) → levels ≢ 0 → is_seen seen v ≡ false → (grow below levels seen v).seen ≡ kids_seen below (levels - 1) seen v
  seen_below levels seen v h s = ap (λ (g : Grown). g.seen) (grow_next below levels seen v h s)

-- nothing is below an occurrence that is one with nothing below it
no_kids : (g : Grown) (v : ℕ) (m : Bool) (seen : List Bool) → g ≡ grown (occurrence v m none) seen → occurrence_kids g.occurrence ≡ []
no_kids g v m seen e = ap (λ (z : Grown). occurrence_kids z.occurrence) e

module _ {N : Type 0} (text : N → List ℕ) (g : Graph N) (mark : List ℕ) where
  -- the shape of an occurrence
  abbrev pub shape_of : OccurrenceTree → Shape
  shape_of = occurrence_shape text g mark

  -- what is below a shape
  pub kids_are : (t : OccurrenceTree) (ts : List OccurrenceTree) → occurrence_kids t ≡ ts → map shape_of ts ≡ kids (shape_of t)
  kids_are t ts e = ap (map shape_of) (sym e) ∙ kids_of_unfold (occurrence_own text g mark) occurrence_kids t

  -- what is at a place has the own entry of any occurrence of its node with its mark
  own_alike : (look : Look) (outer : List ℕ) (last : Option Bool) (weight : Option N) (repeated : Bool) (t : OccurrenceTree) → weight ≡ slice_get (weights_of g) t.node → repeated ≡ t.repeated
      → own_entry look outer last (leaf_shape text weight mark repeated) ≡ own_entry look outer last (shape_of t)
  own_alike look outer last weight repeated t e m =
      ap (λ w. own_entry look outer last (leaf_shape text w mark repeated)) e
      ∙ ap (λ b. own_entry look outer last (leaf_shape text (slice_get (weights_of g) t.node) mark b)) m

  -- so what holds of the one holds of the other, also where a graph is drawn
  pub own_drawn : (P : List ℕ → Type 0) (look : Look) (outer : List ℕ) (last : Option Bool) (levels : ℕ) (items : List Bool) (v : ℕ) (weight : Option N) (repeated : Bool)
      → P (own_entry look outer last (leaf_shape text weight mark repeated)) → weight ≡ slice_get (weights_of g) v → repeated ≡ is_seen items v
      → P (own_entry look outer last (shape_of (grow (neighbors_of (edges_of g)) levels (flags_of g items) v).occurrence))
  own_drawn P look outer last levels items v weight repeated h e flag =
      let below = neighbors_of (edges_of g) in
      let seen = flags_of g items in
      let marked : repeated ≡ (grow below levels seen v).occurrence.repeated = flag ∙ (sym (seen_all (length (weights_of g)) items v) ∙ sym (grown_mark below levels seen v)) in
      subst P (own_alike look outer last weight repeated (grow below levels seen v).occurrence (e ∙ ap (slice_get (weights_of g)) (sym (grown_node below levels seen v))) marked) h

  -- a node with nothing below it is written with its own entry
  pub leaf_drawn : (a b : Option (List ℕ)) (look : Look) (outer : List ℕ) (last : Bool) (levels : ℕ) (items : List Bool) (v : ℕ) (weight : Option N) (repeated m : Bool) (after : List Bool)
      → grow (neighbors_of (edges_of g)) levels (flags_of g items) v ≡ grown (occurrence v m none) after → weight ≡ slice_get (weights_of g) v → repeated ≡ is_seen items v
      → Appends a b (own_entry look outer (Some last) (leaf_shape text weight mark repeated))
      → Appends a b (concat (item_entries look levels outer last (shape_of (grow (neighbors_of (edges_of g)) levels (flags_of g items) v).occurrence)))
  leaf_drawn a b look outer last levels items v weight repeated m after stop w flag own =
      let tree = (grow (neighbors_of (edges_of g)) levels (flags_of g items) v).occurrence in
      leaf_written look levels outer last (shape_of tree) a b (sym (kids_are tree [] (no_kids _ v m after stop)))
      (own_drawn (λ z. Appends a b z) look outer (Some last) levels items v weight repeated own w flag)

  -- one that is expanded is written: its own entry, and then those below it
  pub expanded_written : {A E : Type 0} (a b c : Option (List ℕ)) (r : Result A E) (e : DrawError) (look : Look) (outer : List ℕ) (last : Bool) (levels : ℕ) (items : List Bool) (v : ℕ) (weight : Option N) (repeated : Bool)
      → levels ≢ 0 → repeated ≡ false → weight ≡ slice_get (weights_of g) v → repeated ≡ is_seen items v
      → Appends a b (own_entry look outer (Some last) (leaf_shape text weight mark repeated))
      → AreWritten b c r e (kid_entries look (entries_below look (levels - 1)) (outer ++ passing_piece look.pieces last) (map shape_of (kids_grown (neighbors_of (edges_of g)) (levels - 1) (flags_of g items) v)))
      → AreWritten a c r e (item_entries look levels outer last (shape_of (grow (neighbors_of (edges_of g)) levels (flags_of g items) v).occurrence))
  expanded_written a b c r e look outer last levels items v weight repeated some new w flag own under =
      let below = neighbors_of (edges_of g) in
      let seen = flags_of g items in
      let tree = (grow below levels seen v).occurrence in
      let unseen : is_seen seen v ≡ false = seen_all (length (weights_of g)) items v ∙ sym flag ∙ new in
      item_written look levels outer last (shape_of tree) a b c r e some
      (own_drawn (λ z. Appends a b z) look outer (Some last) levels items v weight repeated own w flag)
      (all_below look (entries_below look (levels - 1)) (outer ++ passing_piece look.pieces last) (shape_of tree) b c r e shape_of (kids_grown below (levels - 1) seen v) (kids_are tree _ (kids_below below levels seen v some unseen)) under)

  -- the shape of what is drawn from a node on
  abbrev pub drawn_from : ℕ → ℕ → Shape
  drawn_from depth v = shape_of (grow (neighbors_of (edges_of g)) depth (flags_of g []) v).occurrence

  -- what is below it
  pub kids_from : (depth v : ℕ) (items : List Bool) → depth ≢ 0 → items ≡ [] → map shape_of (kids_grown (neighbors_of (edges_of g)) (depth - 1) (flags_of g items) v) ≡ kids (drawn_from depth v)
  kids_from depth v items some none_seen =
      let below = neighbors_of (edges_of g) in
      let seen = flags_of g [] in
      ap (λ s. map shape_of (kids_grown below (depth - 1) (flags_of g s) v)) none_seen
      ∙ kids_are (grow below depth seen v).occurrence _ (kids_below below depth seen v some (seen_all (length (weights_of g)) [] v))

  -- nothing, if the node has no neighbours
  pub no_kids_from : (depth v : ℕ) → depth ≢ 0 → neighbors_of (edges_of g) v ≡ [] → kids (drawn_from depth v) ≡ []
  no_kids_from depth v some alone =
      let below = neighbors_of (edges_of g) in
      let seen = flags_of g [] in
      sym (kids_are (grow below depth seen v).occurrence [] (no_kids _ v _ seen (without below depth seen v some (seen_all (length (weights_of g)) [] v) alone)))

-- all children were drawn
pub all_begun : (look : Look) (below : List ℕ → Shape → List (List ℕ)) (outer : List ℕ) (all rest : List Shape) (a b : Option (List ℕ)) → rest ≡ [] → AreBegun look below outer all rest a b → Appends a b (concat (kid_entries look below outer all))
all_begun look below outer all rest a b ended h =
    subst (λ (es : List (List ℕ)). Appends a b (concat es)) (sym (append-nil h.0) ∙ (ap (λ ks. h.0 ++ kid_entries look below outer ks) (sym ended) ∙ h.1)) h.2

-- the flags after a call that was all right, by another name
pub flags_after_ok : {A E : Type 0} (x y z : List Bool) (r : Result A E) → y ≡ z → OnOk r (x ≡ y) → OnOk r (x ≡ z)
flags_after_ok x y z (Ok v) e h = h ∙ e
flags_after_ok x y z (Err v) e h = h

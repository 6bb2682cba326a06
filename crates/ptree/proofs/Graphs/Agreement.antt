-- Where no occurrence is repeated, a graph expanded once is drawn as its walks are.
use Rattle.std.specs.Prelude.{◌↔◌, slice_get, option_map, unwrap_or, All, if◌then◌else◌, nat_lt}
use Rattle.std.proofs.Common.{◌≡◌, ℕ, zero, suc, Bool, true, false, List, [], ◌∷◌, ◌++◌, map, Option, Some, None, length, sym, ◌∙◌, ap, refl, arith}
use Rattle.std.proofs.lemmas.Bool.{lt-ltb}
use Rattle.std.proofs.lemmas.List.{append-nil}
use Rattle.std.proofs.lemmas.List.Elements.{All-nil, All-cons}
use Rattle.ptree.specs.declared.graph.Graph.{Graph}
use Rattle.ptree.specs.Address.{Address}
use Rattle.ptree.specs.Drawing.{Look, entry_from, IsDrawing}
use Rattle.ptree.specs.Entries.{shape_entry, kid_entries, entries_below, drawn_entries}
use Rattle.ptree.specs.Graph.{weights_of, edges_of, neighbors_of, node_own, node_shape}
use Rattle.ptree.specs.Occurrence.{OccurrenceTree, occurrence_kids, StandsAt, IsExpandedOnce, NoneRepeated, mark_text, occurrence_own, occurrence_shape}
use Rattle.ptree.specs.Style.{StyleValue, painted_text}
use Rattle.ptree.proofs.Graphs.ExpandedRows.{stands_cons}
use Rattle.ptree.proofs.Drawing.Laws.{same_drawings, less_suc}
use Rattle.ptree.proofs.Trees.ItemTrees.{map_twice}
use Rattle.ptree.proofs.Graphs.Walks.{kid_entries_alike}
use Rattle.ptree.proofs.Trees.Shapes.{kids_of_unfold}

-- what holds at each place holds of all
all_at : {X : Type 0} (P : X → Type 0) (xs : List X) → ((i : ℕ) (x : X) → slice_get xs i ≡ Some x → P x) → All P xs
all_at P [] h = All-nil P
all_at P (x ∷ xs) h = All-cons P x xs (h 0 x refl) (all_at P xs (λ i y e. h (suc i) y e))

module _ {N : Type 0} (text : N → List ℕ) (g : Graph N) (mark : List ℕ) where
  -- the neighbours in the graph
  abbrev under : ℕ → List ℕ
  under = neighbors_of (edges_of g)

  -- no occurrence is repeated, and each above the depth has its node's neighbours below it
  record IsFull (d : ℕ) (t : OccurrenceTree) : Type 0 where
    none_repeated : (a : Address) (p : OccurrenceTree) → StandsAt t a p → p.repeated ≡ false
    children : (a : Address) (p : OccurrenceTree) → StandsAt t a p → map (λ q. q.node) (occurrence_kids p) ≡ (if nat_lt (length a) d then under p.node else [])

  -- the same one level deeper
  full_below : (d : ℕ) (t c : OccurrenceTree) (i : ℕ) → IsFull (suc d) t → slice_get (occurrence_kids t) i ≡ Some c → IsFull d c
  full_below d t c i h e = record {
    none_repeated = λ a p s. h.none_repeated (i ∷ a) p (stands_cons t c p i a e s);
    children = λ a p s. h.children (i ∷ a) p (stands_cons t c p i a e s) ∙ ap (λ b. if b then under p.node else []) (less_suc (length a) d);
  }

  -- without a mark the text is the label's
  own_of_occurrence : (style : StyleValue) (o : Option N) (m : Bool) → m ≡ false
      → unwrap_or (option_map (λ w. painted_text style (text w ++ mark_text mark m)) o) [] ≡ unwrap_or (option_map (λ w. painted_text style (text w)) o) []
  own_of_occurrence style None m e = refl
  own_of_occurrence style (Some w) m e = ap (λ b. painted_text style (text w ++ mark_text mark b)) e ∙ ap (painted_text style) (append-nil (text w))

  -- so both write the same
  same_own : (d : ℕ) (style : StyleValue) (t : OccurrenceTree) → IsFull d t → (occurrence_shape text g mark t).own [] style ≡ (node_shape text g t.node).own [] style
  same_own d style t h = own_of_occurrence style (slice_get (weights_of g) t.node) t.repeated (h.none_repeated [] t refl)

  -- and have the same entries below them
  same_entries : (look : Look) (d : ℕ) (t : OccurrenceTree) → IsFull d t → (outer : List ℕ) → entries_below look d outer (occurrence_shape text g mark t) ≡ entries_below look d outer (node_shape text g t.node)
  same_entries look zero t h outer = refl
  same_entries look (suc d) t h outer =
      let entries = kid_entries look (entries_below look d) outer in
      let within : nat_lt 0 (suc d) ≡ true = lt-ltb 0 (suc d) (omega arith) in
      let nodes : map (λ (q : OccurrenceTree). q.node) (occurrence_kids t) ≡ under t.node = h.children [] t refl ∙ ap (λ b. if b then under t.node else []) within in
      ap entries (sym (kids_of_unfold (occurrence_own text g mark) occurrence_kids t))
      ∙ (kid_entries_alike look (entries_below look d) (occurrence_shape text g mark) (λ p. node_shape text g p.node) (IsFull d)
      (λ p k. same_own d look.leaf p k) (λ p k. same_entries look d p k) outer (occurrence_kids t) (all_at (IsFull d) (occurrence_kids t) (λ i c e. full_below d t c i h e))
      ∙ ap entries (map_twice (λ (p : OccurrenceTree). p.node) (node_shape text g) (occurrence_kids t) ∙ (ap (map (node_shape text g)) nodes ∙ kids_of_unfold (node_own text g) under t.node)))

  -- the definition gives that
  full_of_drawn : (start depth : ℕ) (t : OccurrenceTree) → IsExpandedOnce under start depth t → NoneRepeated t → IsFull depth t
  full_of_drawn start depth t h u = record {
    none_repeated = u;
    children = λ a p s. h.children a p s ∙ ap (λ b. if b then [] else (if nat_lt (length a) depth then under p.node else [])) (u a p s);
  }

  -- byte for byte
  pub drawing_where_none_repeated : (look : Look) (start depth : ℕ) (t : OccurrenceTree) → IsExpandedOnce under start depth t → NoneRepeated t
      → (bytes : List ℕ) → IsDrawing look (occurrence_shape text g mark t) depth bytes ↔ IsDrawing look (node_shape text g start) depth bytes
  drawing_where_none_repeated look start depth t h u =
      let full = full_of_drawn start depth t h u in
      same_drawings look (occurrence_shape text g mark t) (node_shape text g start) depth depth
      (ap (λ own. entry_from look [] [] own ∷ entries_below look depth [] (occurrence_shape text g mark t)) (same_own depth look.leaf t full)
      ∙ (ap (λ z. shape_entry look [] [] (node_shape text g t.node) ∷ z) (same_entries look depth t full [])
      ∙ ap (λ v. drawn_entries look depth (node_shape text g v)) h.root))

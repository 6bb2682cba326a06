-- The drawing of a node is that of the tree of the walks from it.
use Rattle.std.specs.Prelude.{◌↔◌, slice_get, option_map, unwrap_or, All}
use Rattle.std.proofs.Common.{◌≡◌, ℕ, zero, suc, ◌<◌, List, [], ◌∷◌, ◌++◌, map, Option, Some, None, length, sym, ◌∙◌, ap, refl, arith}
use Rattle.std.proofs.lemmas.List.Elements.{All-head, All-tail}
use Rattle.ptree.specs.declared.graph.Graph.{Graph}
use Rattle.ptree.specs.Drawing.{Look, entry_from, IsDrawing}
use Rattle.ptree.specs.Graph.{weights_of, edges_of, neighbors_of, node_own, node_shape, node_text, walks}
use Rattle.ptree.specs.Entries.{shape_entry, is_empty, with_below, kid_entries, entries_below, drawn_entries}
use Rattle.ptree.specs.Pieces.{passing_piece, turning_piece}
use Rattle.ptree.specs.Shape.{Shape, kids}
use Rattle.ptree.specs.Style.{StyleValue, painted_text}
use Rattle.ptree.specs.Tree.{tree_own, tree_kids, shape_of_tree}
use Rattle.ptree.proofs.Drawing.Laws.{same_drawings}
use Rattle.ptree.proofs.Graphs.Links.{neighbors_below}
use Rattle.ptree.proofs.Trees.ItemTrees.{trees_of_forest, map_twice}
use Rattle.ptree.proofs.Trees.Shapes.{kids_of_unfold}

-- two maps of a list are both empty or neither is
same_empty : {X : Type 0} (f g : X → Shape) (xs : List X) → is_empty (map f xs) ≡ is_empty (map g xs)
same_empty f g [] = refl
same_empty f g (x ∷ xs) = refl

-- children that two functions give have the same entries if both functions give the same bytes and
-- entries
pub kid_entries_alike : {X : Type 0} (look : Look) (below : List ℕ → Shape → List (List ℕ)) (f g : X → Shape) (P : X → Type 0)
    → ((x : X) → P x → (f x).own [] look.leaf ≡ (g x).own [] look.leaf) → ((x : X) → P x → (outer : List ℕ) → below outer (f x) ≡ below outer (g x))
    → (outer : List ℕ) (xs : List X) → All P xs → kid_entries look below outer (map f xs) ≡ kid_entries look below outer (map g xs)
kid_entries_alike look below f g P o b outer [] h = refl
kid_entries_alike look below f g P o b outer (x ∷ xs) h =
    let here = All-head P x xs h in
    let turned = outer ++ turning_piece look.pieces (is_empty (map g xs)) in
    let passed = outer ++ passing_piece look.pieces (is_empty (map g xs)) in
    ap (λ l. with_below look below outer l (f x) ++ kid_entries look below outer (map f xs)) (same_empty f g xs)
    ∙ ap (λ t. (entry_from look turned passed t ∷ below passed (f x)) ++ kid_entries look below outer (map f xs)) (o x here)
    ∙ ap (λ t. (shape_entry look turned passed (g x) ∷ t) ++ kid_entries look below outer (map f xs)) (b x here passed)
    ∙ ap (λ t. with_below look below outer (is_empty (map g xs)) (g x) ++ t) (kid_entries_alike look below f g P o b outer xs (All-tail P x xs h))

-- there is an element at a place within a list
within_is_some : {X : Type 0} (xs : List X) (i : ℕ) → i < length xs → slice_get xs i ≡ None → ⊥
within_is_some [] i h e = absurd (omega arith)
within_is_some (x ∷ xs) zero h e = absurd (cc)
within_is_some (x ∷ xs) (suc i) h e = within_is_some xs i (omega arith) e

module _ {N : Type 0} (text : N → List ℕ) (g : Graph N) where
  -- the shape of the tree of the walks
  abbrev shape_of_walks : ℕ → ℕ → Shape
  shape_of_walks v d = shape_of_tree (walks text g v d)

  text_of_walks : (v d : ℕ) → (walks text g v d).text ≡ node_text text g v
  text_of_walks v zero = refl
  text_of_walks v (suc d) = refl

  painted_some : (style : StyleValue) (o : Option N) → (o ≡ None → ⊥)
      → unwrap_or (option_map (λ w. painted_text style (text w)) o) [] ≡ painted_text style (unwrap_or (option_map text o) [])
  painted_some style None h = absurd (h refl)
  painted_some style (Some w) h = refl

  own_of_walks : (style : StyleValue) (v d : ℕ) → v < length (weights_of g) → (node_shape text g v).own [] style ≡ (shape_of_walks v d).own [] style
  own_of_walks style v d h =
      painted_some style (slice_get (weights_of g) v) (within_is_some (weights_of g) v h) ∙ ap (painted_text style) (sym (text_of_walks v d))

  kids_of_walks : (v d : ℕ) → map (λ u. shape_of_walks u d) (neighbors_of (edges_of g) v) ≡ kids (shape_of_walks v (suc d))
  kids_of_walks v d =
      let below = neighbors_of (edges_of g) v in
      map_twice (λ u. walks text g u d) shape_of_tree below
      ∙ ap (map shape_of_tree) (sym (trees_of_forest (map (λ u. walks text g u d) below)))
      ∙ kids_of_unfold tree_own tree_kids (walks text g v (suc d))

  entries_of_walks : (look : Look) (d v : ℕ) → v < length (weights_of g) → (outer : List ℕ)
      → entries_below look d outer (node_shape text g v) ≡ entries_below look d outer (shape_of_walks v d)
  entries_of_walks look zero v h outer = refl
  entries_of_walks look (suc d) v h outer =
      let entries = kid_entries look (entries_below look d) outer in
      ap entries (sym (kids_of_unfold (node_own text g) (neighbors_of (edges_of g)) v))
      ∙ kid_entries_alike look (entries_below look d) (node_shape text g) (λ u. shape_of_walks u d) (λ u. u < length (weights_of g))
      (λ u. own_of_walks look.leaf u d) (entries_of_walks look d) outer (neighbors_of (edges_of g) v) (neighbors_below g v)
      ∙ ap entries (kids_of_walks v d)

  drawn_of_walks : (look : Look) (d v : ℕ) → v < length (weights_of g) → drawn_entries look d (node_shape text g v) ≡ drawn_entries look d (shape_of_walks v d)
  drawn_of_walks look d v h =
      ap (λ own. entry_from look [] [] own ∷ entries_below look d [] (node_shape text g v)) (own_of_walks look.leaf v d h)
      ∙ ap (λ entries. shape_entry look [] [] (shape_of_walks v d) ∷ entries) (entries_of_walks look d v h [])

  -- the drawing of a node is that of the tree of the walks, byte for byte
  pub drawing_of_walks : (look : Look) (d v : ℕ) → v < length (weights_of g) → (bytes : List ℕ)
      → IsDrawing look (node_shape text g v) d bytes ↔ IsDrawing look (shape_of_tree (walks text g v d)) d bytes
  drawing_of_walks look d v h = same_drawings look (node_shape text g v) (shape_of_walks v d) d d (drawn_of_walks look d v h)

-- The drawing of a finite tree, by recursion over it.
use Rattle.std.specs.Prelude.{◌↔◌}
use Rattle.std.proofs.Common.{◌≡◌, ℕ, zero, suc, ◌≤◌, Bool, true, false, List, [], ◌∷◌, ◌++◌, map, refl, sym, ap, ◌∙◌, subst, append_assoc, arith}
use Rattle.std.proofs.lemmas.List.{append-nil}
use Rattle.std.proofs.lemmas.List.Folds.{concat-append}
use Rattle.std.specs.List.{concat}
use Rattle.ptree.specs.Drawing.{Look, entry_from, IsDrawing}
use Rattle.ptree.specs.Entries.{is_empty, with_below, kid_entries, entries_below, drawn_entries}
use Rattle.ptree.specs.Pieces.{Pieces, turning_piece, passing_piece, passing_all}
use Rattle.ptree.specs.Shape.{Shape}
use Rattle.ptree.specs.Spelled.{text_entry}
use Rattle.ptree.specs.Style.{painted_text}
use Rattle.ptree.specs.Tree.{none, item, Forest, Tree, tree, trees, tree_kids, height, tree_own, shape_of_tree}
use Rattle.ptree.proofs.Drawing.Join.{drawn_is_drawing}
use Rattle.ptree.proofs.Drawing.Laws.{one_drawing}
use Rattle.ptree.proofs.Trees.Shapes.{kids_of_unfold}

-- whether a forest is empty
abbrev pub is_bare : Forest → Bool
is_bare none = true
is_bare (item t c r) = false

-- the drawing of a forest and of what is below it; above says of each ancestor whether it is a last
-- child
abbrev pub forest_drawing : Look → List Bool → Forest → List ℕ
forest_drawing k above none = []
forest_drawing k above (item t c r) =
    text_entry k (passing_all k.pieces above ++ turning_piece k.pieces (is_bare r)) (passing_all k.pieces (above ++ is_bare r ∷ [])) t
    ++ (forest_drawing k (above ++ is_bare r ∷ []) c ++ forest_drawing k above r)

-- the root's line, and those below it
abbrev pub tree_drawing : Look → Tree → List ℕ
tree_drawing k t = text_entry k [] [] t.text ++ forest_drawing k [] t.children

-- the passing pieces with one level more
passing_all_push : (p : Pieces) (above : List Bool) (b : Bool) → passing_all p above ++ passing_piece p b ≡ passing_all p (above ++ b ∷ [])
passing_all_push p [] b = sym (append-nil (passing_piece p b))
passing_all_push p (d ∷ above) b = append_assoc (passing_piece p d) (passing_all p above) (passing_piece p b) ∙ ap (λ z. passing_piece p d ++ z) (passing_all_push p above b)

-- a row of trees has no shapes exactly if it is bare
bare_shapes : (f : Forest) → is_empty (map shape_of_tree (trees f)) ≡ is_bare f
bare_shapes none = refl
bare_shapes (item t c r) = refl

-- the entries of a row of trees are its drawing, if those of each tree are
entries_of_forest : (look : Look) (d : ℕ) → ((above : List Bool) (t : Tree) → height t.children ≤ d → concat (entries_below look d (passing_all look.pieces above) (shape_of_tree t)) ≡ forest_drawing look above t.children)
    → (above : List Bool) (f : Forest) → height f ≤ suc d → concat (kid_entries look (entries_below look d) (passing_all look.pieces above) (map shape_of_tree (trees f))) ≡ forest_drawing look above f
entries_of_forest look d ih above none h = refl
entries_of_forest look d ih above (item t c r) h =
    let p = look.pieces in
    let outer : List ℕ = passing_all p above in
    let deep : List Bool = above ++ is_bare r ∷ [] in
    let x : Shape = shape_of_tree (tree t c) in
    let own : List ℕ = painted_text look.leaf t in
    let others : List (List ℕ) = kid_entries look (entries_below look d) outer (map shape_of_tree (trees r)) in
    let here : List ℕ = entry_from look (outer ++ turning_piece p (is_bare r)) (passing_all p deep) own in
    ap (λ b. concat (with_below look (entries_below look d) outer b x ++ others)) (bare_shapes r)
    ∙ (ap (λ q. entry_from look (outer ++ turning_piece p (is_bare r)) q own ++ concat (entries_below look d q x ++ others)) (passing_all_push p above (is_bare r))
    ∙ (ap (λ z. here ++ z) (concat-append (entries_below look d (passing_all p deep) x) others)
    ∙ (ap (λ z. here ++ (z ++ concat others)) (ih deep (tree t c) (omega (arith, h)))
    ∙ ap (λ z. here ++ (forest_drawing look deep c ++ z)) (entries_of_forest look d ih above r (omega (arith, h))))))

-- a row of no height has no drawing
no_trees : (look : Look) (above : List Bool) (f : Forest) → height f ≤ 0 → [] ≡ forest_drawing look above f
no_trees look above none h = refl
no_trees look above (item t c r) h = absurd (omega (arith, h))

-- the entries below a tree are the drawing of its children
entries_of_tree : (look : Look) (d : ℕ) (above : List Bool) (t : Tree) → height t.children ≤ d → concat (entries_below look d (passing_all look.pieces above) (shape_of_tree t)) ≡ forest_drawing look above t.children
entries_of_tree look zero above t h = no_trees look above t.children h
entries_of_tree look (suc d) above t h =
    ap (λ ks. concat (kid_entries look (entries_below look d) (passing_all look.pieces above) ks)) (sym (kids_of_unfold tree_own tree_kids t))
    ∙ entries_of_forest look d (entries_of_tree look d) above t.children h

-- the drawing of a tree by recursion over items is that over the tree
pub drawn_tree : (look : Look) (depth : ℕ) (t : Tree) → height t.children ≤ depth → concat (drawn_entries look depth (shape_of_tree t)) ≡ tree_drawing look t
drawn_tree look depth t h = ap (λ z. entry_from look [] [] (painted_text look.leaf t.text) ++ z) (entries_of_tree look depth [] t h)

-- the drawing of a tree by addresses is its drawing by recursion, at a depth that no level exceeds
pub drawing_of_tree : (look : Look) (depth : ℕ) (t : Tree) (x : List ℕ) → height t.children ≤ depth → IsDrawing look (shape_of_tree t) depth x ↔ (x ≡ tree_drawing look t)
drawing_of_tree look depth t x h = (
  λ e. one_drawing look (shape_of_tree t) depth x e ∙ drawn_tree look depth t h,
  λ e. subst (λ (y : List ℕ). IsDrawing look (shape_of_tree t) depth y) (drawn_tree look depth t h ∙ sym e) (drawn_is_drawing look depth (shape_of_tree t)),
)

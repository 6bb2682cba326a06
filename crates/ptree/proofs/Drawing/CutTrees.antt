-- A cut tree and the whole one have the same drawings up to the cut.
use Rattle.std.proofs.Common.{◌≡◌, ℕ, zero, suc, ◌≤◌, List, [], ◌∷◌, map, sym, ◌∙◌, ap, refl, arith}
use Rattle.ptree.specs.Drawing.{Look}
use Rattle.ptree.specs.Laws.{HasTreeCuts}
use Rattle.ptree.specs.Entries.{shape_entry, kid_entries, entries_below}
use Rattle.ptree.specs.Shape.{kids}
use Rattle.ptree.specs.Tree.{none, item, Forest, Tree, tree, trees, tree_kids, cut_forest, cut_tree, tree_own, shape_of_tree}
use Rattle.ptree.proofs.Drawing.Laws.{kid_entries-map, same_drawings}
use Rattle.ptree.proofs.Trees.ItemTrees.{map_twice}
use Rattle.ptree.proofs.Trees.Shapes.{kids_of_unfold}

-- no tree has level 0
none_at_zero : (f : Forest) → cut_forest 0 f ≡ none
none_at_zero none = refl
none_at_zero (item t c r) = refl

-- the trees of a cut forest are the trees, each cut at one less
trees_of_cut : (d : ℕ) (f : Forest) → trees (cut_forest (suc d) f) ≡ map (cut_tree d) (trees f)
trees_of_cut d none = refl
trees_of_cut d (item t c r) = ap (λ ts. cut_tree d (tree t c) ∷ ts) (trees_of_cut d r)

-- the children of a cut tree are its children, cut one level lower
kids_of_cut_tree : (d : ℕ) (t : Tree) → kids (shape_of_tree (cut_tree (suc d) t)) ≡ map (λ s. shape_of_tree (cut_tree d s)) (tree_kids t)
kids_of_cut_tree d t =
    sym (kids_of_unfold tree_own tree_kids (cut_tree (suc d) t))
    ∙ ap (map shape_of_tree) (trees_of_cut d t.children)
    ∙ sym (map_twice (cut_tree d) shape_of_tree (tree_kids t))

-- the entries below a cut tree are those below the tree, down to the cut
entries_of_cut_tree : (look : Look) (d e : ℕ) → d ≤ e → (outer : List ℕ) (t : Tree)
    → entries_below look e outer (shape_of_tree (cut_tree d t)) ≡ entries_below look d outer (shape_of_tree t)
entries_of_cut_tree look zero zero h outer t = refl
entries_of_cut_tree look zero (suc e) h outer t =
    ap (kid_entries look (entries_below look e) outer) (sym (kids_of_unfold tree_own tree_kids (cut_tree 0 t)) ∙ ap (λ f. map shape_of_tree (trees f)) (none_at_zero t.children))
entries_of_cut_tree look (suc d) zero h outer t = absurd (omega arith)
entries_of_cut_tree look (suc d) (suc e) h outer t =
    ap (kid_entries look (entries_below look e) outer) (kids_of_cut_tree d t)
    ∙ kid_entries-map look (λ s. shape_of_tree (cut_tree d s)) shape_of_tree (entries_below look d) (entries_below look e) (λ s. refl) (λ f s. entries_of_cut_tree look d e (omega arith) f s) outer (tree_kids t)
    ∙ ap (kid_entries look (entries_below look d) outer) (kids_of_unfold tree_own tree_kids t)

-- the drawings of a tree at a depth are those of the cut tree
pub drawing_of_cut_tree : (look : Look) (d : ℕ) → HasTreeCuts look d
drawing_of_cut_tree look d = λ t e text h.
    same_drawings look (shape_of_tree t) (shape_of_tree (cut_tree d t)) d e
    (sym (ap (λ y. shape_entry look [] [] (shape_of_tree t) ∷ y) (entries_of_cut_tree look d e h [] t))) text

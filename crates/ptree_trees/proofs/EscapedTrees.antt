-- Trees whose texts are escaped.
use Rattle.std.proofs.Common.{◌≡◌, ℕ, ◌≤◌, List, [], ◌∷◌, length, map, take, string_bytes, refl, sym, ap, ◌∙◌}
use Rattle.std.proofs.lemmas.List.{take_all}
use Rattle.ptree.specs.Tree.{Tree, tree, item, tree_of, forest}
use Rattle.ptree.specs.declared.item.StringItem.{StringItem, out-StringItem}
use Rattle.ptree.specs.declared.item.StringItem.TheOpen.{StringItem-F}
use Rattle.ptree.specs.declared.item.StringItem.TheViews.{roll-StringItem}
use Rattle.ptree.proofs.Trees.ItemTrees.{tree_of_item, tree_of_roll}
use Rattle.ptree_trees.specs.Escape.{mapped_forest, mapped_tree}

module _ (f : List ℕ → List ℕ) where
  -- a forest of trees whose texts are replaced
  forest_mapped : (ts : List Tree) → forest (map (mapped_tree f) ts) ≡ mapped_forest f (forest ts)
  forest_mapped [] = refl
  forest_mapped (t ∷ ts) = ap (item (f t.text) (mapped_forest f t.children)) (forest_mapped ts)

  -- a new item is the item with its texts replaced if its text and its children are
  pub whole_mapped : (root : StringItem) (x : StringItem-F StringItem) (xs : List StringItem) (i : ℕ) → xs ≡ (out-StringItem root).children.items → length xs ≤ i
      → string_bytes x.text ≡ f (string_bytes (out-StringItem root).text) → map tree_of x.children.items ≡ map (mapped_tree f) (map tree_of (take i xs)) → tree_of (roll-StringItem x) ≡ mapped_tree f (tree_of root)
  whole_mapped root x xs i e l text kids =
      let all : take i xs ≡ (out-StringItem root).children.items = take_all i xs l ∙ e in
      let below : forest (map tree_of x.children.items) ≡ mapped_forest f (forest (map tree_of (out-StringItem root).children.items)) =
      ap forest kids ∙ (forest_mapped (map tree_of (take i xs)) ∙ ap (λ ys. mapped_forest f (forest (map tree_of ys))) all) in
      tree_of_roll x ∙ (ap (λ t. tree t (forest (map tree_of x.children.items))) text ∙ (ap (tree (f (string_bytes (out-StringItem root).text))) below ∙ ap (mapped_tree f) (sym (tree_of_item root))))

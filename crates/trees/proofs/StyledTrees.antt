-- Styled trees and items.
use Rattle.trees.proofs.Common.{◌≡◌, ◌∙◌, ℕ, List, [], ◌∷◌, length, map, Option, Some, None, ap, refl, sym, string_bytes, slice_get, option_and_then, option_map, unwrap_or, length-map, slice_get-map, Address, at, StyleValue, style_of}
use Rattle.std.proofs.Math.Path.{fun_ext}
use Rattle.ptree.specs.declared.style.Style.{Style}
use Rattle.ptree_trees.specs.Styled.{HasParts, styled_own, styled_shape}
use Rattle.ptree_trees.specs.declared.styled.StyledItem.{StyledItem, out-StyledItem}
use Rattle.ptree_trees.specs.declared.styled.StyledItem.TheFolds.{fold_out-StyledItem}
use Rattle.trees.specs.Merging.{StyledTree, styled_trees, styled_forest, styled_step, styled_tree_of, own_text, shape_of_styled}

-- a text in a style over trees
abbrev pub styled_tree : List ℕ → Option StyleValue → List StyledTree → StyledTree
styled_tree t s ts = record { text = t; style = s; children = styled_forest ts }

-- the parts of the tree of an item
styled_tree_of_item : (s : StyledItem) → styled_tree_of s ≡ styled_tree (string_bytes (out-StyledItem s).text) (option_map style_of (out-StyledItem s).style) (map styled_tree_of (out-StyledItem s).children.items)
styled_tree_of_item s = fold_out-StyledItem StyledTree styled_step s

-- the tree of an item with these parts
pub tree_of_parts : (t : List ℕ) (own : Option Style) (below : List StyledItem) (s : StyledItem) → HasParts t own below s → styled_tree_of s ≡ styled_tree t (option_map style_of own) (map styled_tree_of below)
tree_of_parts t own below s h =
    styled_tree_of_item s ∙ ap (λ x. styled_tree x (option_map style_of (out-StyledItem s).style) (map styled_tree_of (out-StyledItem s).children.items)) h.text
    ∙ ap (λ x. styled_tree t (option_map style_of x) (map styled_tree_of (out-StyledItem s).children.items)) h.style ∙ ap (λ x. styled_tree t (option_map style_of own) (map styled_tree_of x)) h.children

-- the children of a tree, and those of an item
abbrev kids_of : StyledTree → List StyledTree
kids_of t = styled_trees t.children

abbrev items_of : StyledItem → List StyledItem
items_of s = (out-StyledItem s).children.items

-- the trees of a forest made of trees
trees_of_forest : (ts : List StyledTree) → styled_trees (styled_forest ts) ≡ ts
trees_of_forest [] = refl
trees_of_forest (t ∷ ts) = ap (λ z. t ∷ z) (trees_of_forest ts)

-- the children of an item's tree are the trees of its children
kids_of_item : (s : StyledItem) → kids_of (styled_tree_of s) ≡ map styled_tree_of (items_of s)
kids_of_item s = ap kids_of (styled_tree_of_item s) ∙ trees_of_forest (map styled_tree_of (items_of s))

-- at each address of the tree stands the tree of what stands there
same_at : (a : Address) (s : StyledItem) → at kids_of (styled_tree_of s) a ≡ option_map styled_tree_of (at items_of s a)
same_at [] s = refl
same_at (i ∷ a) s =
    ap (λ ts. option_and_then (λ c. at kids_of c a) (slice_get ts i)) (kids_of_item s)
    ∙ ap (option_and_then (λ c. at kids_of c a)) (slice_get-map styled_tree_of (items_of s) i) ∙ by_child (λ c. same_at a c) (slice_get (items_of s) i)
  where
    by_child : ((c : StyledItem) → at kids_of (styled_tree_of c) a ≡ option_map styled_tree_of (at items_of c a)) → (o : Option StyledItem)
        → option_and_then (λ c. at kids_of c a) (option_map styled_tree_of o) ≡ option_map styled_tree_of (option_and_then (λ c. at items_of c a) o)
    by_child below None = refl
    by_child below (Some c) = below c

-- the same is written there
same_own : (s : StyledItem) (a : Address) (leaf : StyleValue) → (styled_shape s).own a leaf ≡ (shape_of_styled (styled_tree_of s)).own a leaf
same_own s a leaf = sym (ap (λ o. unwrap_or (option_map (λ y. own_text y leaf) o) []) (same_at a s) ∙ by_item (at items_of s a))
  where
    by_item : (o : Option StyledItem) → unwrap_or (option_map (λ y. own_text y leaf) (option_map styled_tree_of o)) [] ≡ unwrap_or (option_map (λ y. styled_own y leaf) o) []
    by_item None = refl
    by_item (Some y) = ap (λ t. own_text t leaf) (styled_tree_of_item y)

-- there are as many children there
same_count : (s : StyledItem) (a : Address) → (styled_shape s).count a ≡ (shape_of_styled (styled_tree_of s)).count a
same_count s a = sym (ap (λ o. unwrap_or (option_map (λ y. length (kids_of y)) o) 0) (same_at a s) ∙ by_item (at items_of s a))
  where
    by_item : (o : Option StyledItem) → unwrap_or (option_map (λ y. length (kids_of y)) (option_map styled_tree_of o)) 0 ≡ unwrap_or (option_map (λ y. length (items_of y)) o) 0
    by_item None = refl
    by_item (Some y) = ap length (kids_of_item y) ∙ length-map (items_of y) styled_tree_of

-- the shape of an item is that of its tree
pub shape_of_item : (s : StyledItem) → styled_shape s ≡ shape_of_styled (styled_tree_of s)
shape_of_item s =
    ap (λ own. record { own = own; count = (styled_shape s).count }) (fun_ext (λ a. fun_ext (λ leaf. same_own s a leaf)))
    ∙ ap (λ count. record { own = (shape_of_styled (styled_tree_of s)).own; count = count }) (fun_ext (λ a. same_count s a))

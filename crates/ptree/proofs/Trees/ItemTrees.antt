-- Trees and items.
use Rattle.std.specs.Prelude.{slice_get, option_map, option_and_then}
use Rattle.std.proofs.Common.{◌≡◌, ℕ, ◌<◌, ◌≤◌, ◌+◌, List, [], ◌∷◌, length, get_or, drop, map, Option, Some, None, ap, refl, subst, ◌∙◌, string_bytes}
use Rattle.std.proofs.lemmas.List.{at_drop_more}
use Rattle.std.proofs.lemmas.Option.{slice_get-map, slice_get_read, slice_get_past}
use Rattle.ptree.specs.Address.{Address, at}
use Rattle.ptree.specs.declared.item.StringItem.{StringItem, out-StringItem}
use Rattle.ptree.specs.declared.item.StringItem.TheFolds.{fold_out-StringItem, fold-roll-StringItem}
use Rattle.ptree.specs.declared.item.StringItem.TheOpen.{StringItem-F}
use Rattle.ptree.specs.declared.item.StringItem.TheViews.{roll-StringItem}
use Rattle.ptree.specs.Tree.{Tree, tree, trees, forest, tree_of, tree_kids, tree_step}

-- the trees of a forest made of trees
pub trees_of_forest : (ts : List Tree) → trees (forest ts) ≡ ts
trees_of_forest [] = refl
trees_of_forest (t ∷ ts) = ap (λ z. t ∷ z) (trees_of_forest ts)

-- the parts of the tree of an item
pub tree_of_item : (s : StringItem) → tree_of s ≡ tree (string_bytes (out-StringItem s).text) (forest (map tree_of (out-StringItem s).children.items))
tree_of_item s = fold_out-StringItem Tree tree_step s

-- the parts of the tree of a new item
pub tree_of_roll : (x : StringItem-F StringItem) → tree_of (roll-StringItem x) ≡ tree (string_bytes x.text) (forest (map tree_of x.children.items))
tree_of_roll = fold-roll-StringItem Tree tree_step

-- the children of an item's tree are the trees of its children
pub kids_of_item : (s : StringItem) → tree_kids (tree_of s) ≡ map tree_of (out-StringItem s).children.items
kids_of_item s = ap tree_kids (tree_of_item s) ∙ trees_of_forest (map tree_of (out-StringItem s).children.items)

-- a child of an item's tree is the tree of the item's child
child_of_item : (s : StringItem) (i : ℕ) (o : Option StringItem) → slice_get (out-StringItem s).children.items i ≡ o → slice_get (tree_kids (tree_of s)) i ≡ option_map tree_of o
child_of_item s i o e =
    ap (λ ts. slice_get ts i) (kids_of_item s) ∙ slice_get-map tree_of (out-StringItem s).children.items i ∙ ap (option_map tree_of) e

-- an item's child is there
pub child_there : (s : StringItem) (xs : List StringItem) (i : ℕ) (x : StringItem) → xs ≡ (out-StringItem s).children.items → i < length xs → x ≡ get_or xs i x
    → slice_get (tree_kids (tree_of s)) i ≡ Some (tree_of x)
child_there s xs i x e l is = child_of_item s i (Some x) (subst (λ (ys : List StringItem). slice_get ys i ≡ Some x) e (slice_get_read xs (length xs) i x refl l is))

-- an item has no child past its children
pub child_not_there : (s : StringItem) (xs : List StringItem) (i : ℕ) → xs ≡ (out-StringItem s).children.items → length xs ≤ i → slice_get (tree_kids (tree_of s)) i ≡ None
child_not_there s xs i e l = child_of_item s i None (subst (λ (ys : List StringItem). slice_get ys i ≡ None) e (slice_get_past xs i l))

-- what is at the positions that are left is below the child at the next one
pub at_next_position : (t : Tree) (a : Address) (i : ℕ) (o : Option Tree) → i < length a → slice_get (tree_kids t) (get_or a i 0) ≡ o
    → at tree_kids t (drop i a) ≡ option_and_then (λ c. at tree_kids c (drop (i + 1) a)) o
at_next_position t a i o lt e = at_drop_more (at tree_kids t) a i 0 lt ∙ ap (option_and_then (λ c. at tree_kids c (drop (i + 1) a))) e

-- two maps over a list are one
pub map_twice : {A B C : Type 0} (f : A → B) (g : B → C) (xs : List A) → map (λ x. g (f x)) xs ≡ map g (map f xs)
map_twice f g [] = refl
map_twice f g (x ∷ xs) = ap (λ ys. g (f x) ∷ ys) (map_twice f g xs)

-- functions with equal values map a list to the same
pub map_same : {A B : Type 0} (f g : A → B) → ((x : A) → f x ≡ g x) → (xs : List A) → map f xs ≡ map g xs
map_same f g h [] = refl
map_same f g h (x ∷ xs) = ap (λ y. y ∷ map f xs) (h x) ∙ ap (λ ys. g x ∷ ys) (map_same f g h xs)

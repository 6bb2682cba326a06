-- Trees changed.
use Rattle.std.specs.Prelude.{◌≢◌, option_map}
use Rattle.std.proofs.Common.{Option, Some, None, string_bytes, ◌≡◌, ◌∙◌, ap, sym, refl, ◌⊎◌, inl, inr, ℕ, ◌+◌, ◌<◌, ◌≤◌, arith}
use Rattle.std.proofs.Common.{Bool, true, false, List, [], ◌∷◌, ◌++◌, length, get_or, drop, map, append_assoc}
use Rattle.std.proofs.lemmas.List.{at_drop_more, append-nil, drop_all, map-append}
use Rattle.ptree.specs.Tree.{Forest, none, item, Tree, tree, tree_of, trees, forest}
use Rattle.ptree.specs.declared.item.StringItem.{StringItem, out-StringItem}
use Rattle.ptree.specs.declared.item.StringItem.TheOpen.{StringItem-F}
use Rattle.ptree.specs.declared.item.StringItem.TheViews.{roll-StringItem}
use Rattle.ptree.proofs.Trees.ItemTrees.{tree_of_item, tree_of_roll}
use Rattle.ptree_trees.specs.Change.{any_passes, kept_forest, kept_tree}
use Rattle.ptree_trees.proofs.Differences.{forest_of_trees}

-- what is kept of trees
abbrev pub kept_trees : (List ℕ → Bool) → List Tree → List Tree
kept_trees test ts = trees (kept_forest test (forest ts))

-- some items have some trees
some_viewed : {X : Type 0} (view : X → Tree) (xs : List X) → length xs ≢ 0 → map view xs ≢ []
some_viewed view [] n e = n refl
some_viewed view (x ∷ xs) n e = (cc)

module _ (test : List ℕ → Bool) where
  -- where the first tree is not kept, the others are
  kept_without : (t : Tree) (ts : List Tree) → kept_tree test t ≡ None → kept_trees test (t ∷ ts) ≡ kept_trees test ts
  kept_without t ts h = grind arith

  -- what is kept of the first tree stands before what is kept of the others
  kept_with : (t u : Tree) (ts : List Tree) → kept_tree test t ≡ Some u → kept_trees test (t ∷ ts) ≡ u ∷ kept_trees test ts
  kept_with t u ts h = grind arith

  -- an item passes exactly if some are kept
  passes_as_kept : (f : Forest) → ((trees (kept_forest test f) ≡ []) × (any_passes test f ≡ false)) ⊎ ((trees (kept_forest test f) ≢ []) × (any_passes test f ≡ true))
  passes_as_kept none = inl (refl, refl)
  passes_as_kept (item t c r) = grind (arith, passes_as_kept r)

  -- a tree whose text doesn't pass, and of which no children are kept, is not kept
  not_kept : (t : Tree) → test t.text ≡ false → trees (kept_forest test t.children) ≡ [] → kept_tree test t ≡ None
  not_kept t own kids = elim (passes_as_kept t.children) [
    | inl h ↦ rw (own, h.1) refl
    | inr h ↦ absurd (h.0 kids)
  ]

  -- a tree whose text passes, or of which children are kept, is kept with these children
  kept_itself : (t : Tree) (ts : List Tree) → trees (kept_forest test t.children) ≡ ts → (test t.text ≡ true) ⊎ (ts ≢ []) → kept_tree test t ≡ Some (tree t.text (forest ts))
  kept_itself t ts kids (inl own) = rw own (ap (λ f. Some (tree t.text f)) (sym (forest_of_trees (kept_forest test t.children)) ∙ ap forest kids))
  kept_itself t ts kids (inr some) = elim (passes_as_kept t.children) [
    | inl h ↦ absurd (some (sym kids ∙ h.0))
    | inr h ↦ grind (arith, h.1, forest_of_trees (kept_forest test t.children), kids)
  ]

  module _ {X : Type 0} (view : X → Tree) where
    -- an element at an index is the first of those that are left
    first_left : (xs : List X) (i : ℕ) (x : X) → i < length xs → x ≡ get_or xs i x → kept_trees test (map view (drop i xs)) ≡ kept_trees test (view x ∷ map view (drop (i + 1) xs))
    first_left xs i x l is =
        let here : drop i xs ≡ x ∷ drop (i + 1) xs = rw (← is) at (at_drop_more (λ ys. ys) xs i x l) in
        ap (λ ys. kept_trees test (map view ys)) here

    -- one more is looked at, and kept
    pub next_is_kept : (xs kept new : List X) (i : ℕ) (x k : X) (found : Option X) (all : List Tree) → i < length xs → x ≡ get_or xs i x → found ≡ Some k → new ≡ kept ++ k ∷ []
        → option_map view found ≡ kept_tree test (view x) → map view kept ++ kept_trees test (map view (drop i xs)) ≡ all → map view new ++ kept_trees test (map view (drop (i + 1) xs)) ≡ all
    next_is_kept xs kept new i x k found all l is some made h before =
        let own : kept_tree test (view x) ≡ Some (view k) = sym h ∙ ap (option_map view) some in
        let both = first_left xs i x l is ∙ kept_with (view x) (view k) (map view (drop (i + 1) xs)) own in
        rw (made, map-append, append_assoc) (ap (λ ys. map view kept ++ ys) (sym both) ∙ before)

    -- one more is looked at, and not kept
    pub next_is_not_kept : (xs kept new : List X) (i : ℕ) (x : X) (found : Option X) (all : List Tree) → i < length xs → x ≡ get_or xs i x → found ≡ None → new ≡ kept
        → option_map view found ≡ kept_tree test (view x) → map view kept ++ kept_trees test (map view (drop i xs)) ≡ all → map view new ++ kept_trees test (map view (drop (i + 1) xs)) ≡ all
    next_is_not_kept xs kept new i x found all l is none_found made h before =
        let own : kept_tree test (view x) ≡ None = sym h ∙ ap (option_map view) none_found in
        let both = first_left xs i x l is ∙ kept_without (view x) (map view (drop (i + 1) xs)) own in
        rw made (ap (λ ys. map view kept ++ ys) (sym both) ∙ before)

    -- once all are looked at, what is kept is kept of all
    kept_to_end : (xs kept : List X) (i : ℕ) (all : List Tree) → length xs ≤ i → map view kept ++ kept_trees test (map view (drop i xs)) ≡ all → all ≡ map view kept
    kept_to_end xs kept i all l h = sym (rw (append-nil) at (ap (λ ys. map view kept ++ kept_trees test (map view ys)) (sym (drop_all i xs l)) ∙ h))

  -- an item is not kept if its text doesn't pass, and no children are kept
  pub item_not_kept : (s : StringItem) (xs kept : List StringItem) (i : ℕ) → length xs ≤ i
      → map tree_of kept ++ kept_trees test (map tree_of (drop i xs)) ≡ trees (kept_forest test (tree_of s).children)
      → length kept ≡ 0 → test (string_bytes (out-StringItem s).text) ≡ false → None ≡ kept_tree test (tree_of s)
  item_not_kept s xs [] i l h e own = sym (not_kept (tree_of s) (rw tree_of_item own) (kept_to_end tree_of xs [] i (trees (kept_forest test (tree_of s).children)) l h))
  item_not_kept s xs (k ∷ ks) i l h e own = absurd (omega arith)

  -- an item is kept with what is kept of its children if its text passes, or there is one
  pub item_kept : (s : StringItem) (xs : List StringItem) (x : StringItem-F StringItem) (i : ℕ) → length xs ≤ i
      → map tree_of x.children.items ++ kept_trees test (map tree_of (drop i xs)) ≡ trees (kept_forest test (tree_of s).children)
      → string_bytes x.text ≡ string_bytes (out-StringItem s).text → (test (string_bytes (out-StringItem s).text) ≡ true) ⊎ (length x.children.items ≢ 0)
      → Some (tree_of (roll-StringItem x)) ≡ kept_tree test (tree_of s)
  item_kept s xs x i l h text passes =
      let ts = map tree_of x.children.items in
      let own : (tree_of s).text ≡ string_bytes (out-StringItem s).text = ap (λ t. t.text) (tree_of_item s) in
      let made = tree_of_roll x ∙ ap (λ z. tree z (forest ts)) (text ∙ sym own) in
      let cases : (test (tree_of s).text ≡ true) ⊎ (ts ≢ []) = elim passes [
        | inl p ↦ inl (ap test own ∙ p)
        | inr n ↦ inr (some_viewed tree_of x.children.items n)
      ] in
      ap Some made ∙ sym (kept_itself (tree_of s) ts (kept_to_end tree_of xs x.children.items i (trees (kept_forest test (tree_of s).children)) l h) cases)

-- Sorted trees.
use Rattle.std.specs.Prelude.{filter, not, ◌&&◌}
use Rattle.std.specs.Cmp.{IsStrictWeakOrder}
use Rattle.std.specs.Cmp.Lexicographic.{slice_cmp}
use Rattle.std.specs.List.Sorted.{IsPermutation, IsSortedBy, IsStableBy, ties}
use Rattle.std.specs.Ordering.{is_lt, nat_cmp}
use Rattle.std.specs.Str.{bytes_eq}
use Rattle.std.proofs.Common.{◌≡◌, ◌∙◌, ℕ, ◌+◌, ◌<◌, ◌≤◌, ◌++◌, get_or, take, subst, string_bytes, Bool, true, List, [], ◌∷◌, length, map, ap, sym, refl, arith}
use Rattle.std.proofs.lemmas.Cmp.{nat_list_cmp_total}
use Rattle.std.proofs.lemmas.List.{get_or-map, length-map, map-append, take_more, take_all}
use Rattle.std.proofs.lemmas.List.MinMax.{ranks_by}
use Rattle.std.proofs.lemmas.List.Sorted.{IsPermutation-map}
use Rattle.std.proofs.lemmas.Map.Text.{is_eq-slice_cmp}
use Rattle.std.proofs.lemmas.Slice.Eq.{bytes_eq-Decides}
use Rattle.ptree.specs.Tree.{Forest, Tree, tree_of, tree_kids, forest}
use Rattle.ptree.specs.declared.item.StringItem.{StringItem, out-StringItem}
use Rattle.ptree.specs.declared.item.StringItem.TheOpen.{StringItem-F}
use Rattle.ptree.specs.declared.item.StringItem.TheViews.{roll-StringItem}
use Rattle.ptree.proofs.Trees.ItemTrees.{tree_of_item, tree_of_roll, trees_of_forest}
use Rattle.ptree_trees.specs.Sort.{is_text_less, IsSortOf, AreSorted, IsSortedTree}

-- the order of texts is one
pub texts_rank : {X : Type 0} (view : X → Tree) → IsStrictWeakOrder (λ a b. is_text_less (view a) (view b))
texts_rank view = ranks_by nat_list_cmp_total (λ a. (view a).text)

-- two texts tie exactly if they are the same
pub ties_if_same : (a b : List ℕ) → (not (is_lt (slice_cmp nat_cmp a b)) && not (is_lt (slice_cmp nat_cmp b a))) ≡ bytes_eq b a
ties_if_same a b = grind (arith, nat_list_cmp_total.antisymm a b, is_eq-slice_cmp b a)

module _ {X : Type 0} where
  -- what is first among those that pass passes
  first_passes : (p : X → Bool) (xs : List X) (z : X) (zs : List X) → filter p xs ≡ z ∷ zs → p z ≡ true
  first_passes p [] z zs e = absurd (cc)
  first_passes p (x ∷ xs) z zs e = grind (arith, first_passes p xs z zs)

  -- lists keep the same by a test if they do so whenever an element passes
  pub same_by_elements : (p : X → Bool) (xs ys : List X) → ((z : X) → p z ≡ true → filter p ys ≡ filter p xs) → filter p ys ≡ filter p xs
  same_by_elements p xs ys f = by_lists (filter p xs) (filter p ys) refl refl
    where
      by_lists : (ks ls : List X) → filter p xs ≡ ks → filter p ys ≡ ls → filter p ys ≡ filter p xs
      by_lists [] [] d e = e ∙ sym d
      by_lists (z ∷ zs) ls d e = f z (first_passes p xs z zs d)
      by_lists [] (z ∷ zs) d e = f z (first_passes p ys z zs e)

  -- what passes of the views are the views of what passes
  pub filter-map : {Y : Type 0} (view : X → Y) (q : Y → Bool) (xs : List X) → filter q (map view xs) ≡ map view (filter (λ x. q (view x)) xs)
  filter-map view q [] = refl
  filter-map view q (x ∷ xs) = grind (arith, filter-map view q xs)

  module _ (view : X → Tree) where
    -- trees of sorted elements are sorted
    sorted_trees : (ys : List X) → IsSortedBy (λ a b. is_text_less (view a) (view b)) ys → IsSortedBy is_text_less (map view ys)
    sorted_trees [] h = λ k d low l. absurd (omega arith)
    sorted_trees (y ∷ ys) h = λ k d low l.
        let ts = y ∷ ys in
        let bound : k + 1 < length ts = simp length-map at l in
        rw (get_or-map view ts (k + 1) y d bound, get_or-map view ts k y d (omega arith)) (h k y low bound)

    -- elements with one text that keep their order have trees that do
    stable_trees : (xs ys : List X) → IsStableBy (λ a b. is_text_less (view a) (view b)) xs ys → (text : List ℕ)
        → filter (λ t. bytes_eq t.text text) (map view ys) ≡ filter (λ t. bytes_eq t.text text) (map view xs)
    stable_trees xs ys h text =
        filter-map view (λ t. bytes_eq t.text text) ys ∙ ap (map view) (same_by_elements (λ x. bytes_eq (view x).text text) xs ys by_element) ∙ sym (filter-map view (λ t. bytes_eq t.text text) xs)
      where
        by_element : (z : X) → bytes_eq (view z).text text ≡ true → filter (λ x. bytes_eq (view x).text text) ys ≡ filter (λ x. bytes_eq (view x).text text) xs
        by_element z e =
            let same : (view z).text ≡ text = (bytes_eq-Decides (view z).text text).0 e in
            let tests : ties (λ a b. is_text_less (view a) (view b)) z ≡ (λ x. bytes_eq (view x).text text) = λ i w. (ties_if_same (view z).text (view w).text ∙ ap (bytes_eq (view w).text) same) i in
            sym (ap (λ p. filter p ys) tests) ∙ h z ∙ ap (λ p. filter p xs) tests

    -- a sort of elements by the texts of their trees sorts the trees
    pub sorts_trees : (xs ys : List X) → IsPermutation xs ys → IsSortedBy (λ a b. is_text_less (view a) (view b)) ys
        → IsStableBy (λ a b. is_text_less (view a) (view b)) xs ys → IsSortOf (map view xs) (map view ys)
    sorts_trees xs ys p s t = record {
      permutation = IsPermutation-map view xs ys p;
      ascending = sorted_trees ys s;
      stable = stable_trees xs ys t;
    }

-- one more tree is sorted
pub more_sorted : (ts us : List Tree) (t u : Tree) → AreSorted (forest ts) us → IsSortedTree t u → AreSorted (forest (ts ++ t ∷ [])) (us ++ u ∷ [])
more_sorted [] [] t u h s = (s.0, s.1, tt)
more_sorted [] (v ∷ us) t u h s = absurd h
more_sorted (w ∷ ts) [] t u h s = absurd h
more_sorted (w ∷ ts) (v ∷ us) t u h s = (h.0, h.1, more_sorted ts us t u h.2 s)

-- the next of the elements is sorted
pub next_sorted : {X : Type 0} (view : X → Tree) (xs done new : List X) (i : ℕ) (x s : X) → i < length xs → x ≡ get_or xs i x → new ≡ done ++ s ∷ []
    → AreSorted (forest (map view (take i xs))) (map view done) → IsSortedTree (view x) (view s) → AreSorted (forest (map view (take (i + 1) xs))) (map view new)
next_sorted view xs done new i x s l is made before here =
    let front : take (i + 1) xs ≡ take i xs ++ x ∷ [] = rw (← is) at (take_more xs i x l) in
    rw (front, made, map-append, map-append) (more_sorted (map view (take i xs)) (map view done) (view x) (view s) before here)

-- a new item is a sorted item if it has its text, and the sort of its sorted children
pub sorted_whole : (root : StringItem) (x : StringItem-F StringItem) (xs done : List StringItem) (i : ℕ) → xs ≡ (out-StringItem root).children.items → length xs ≤ i
    → string_bytes x.text ≡ string_bytes (out-StringItem root).text → AreSorted (forest (map tree_of (take i xs))) (map tree_of done)
    → IsSortOf (map tree_of done) (map tree_of x.children.items) → IsSortedTree (tree_of root) (tree_of (roll-StringItem x))
sorted_whole root x xs done i e l text before sort =
    let own = tree_of_item root in
    let new = tree_of_roll x in
    let all : take i xs ≡ (out-StringItem root).children.items = take_all i xs l ∙ e in
    let kids : tree_kids (tree_of (roll-StringItem x)) ≡ map tree_of x.children.items = ap tree_kids new ∙ trees_of_forest (map tree_of x.children.items) in (
      ap (λ t. t.text) new ∙ text ∙ sym (ap (λ t. t.text) own),
      (
        map tree_of done,
        subst (λ (f : Forest). AreSorted f (map tree_of done)) (ap (λ ys. forest (map tree_of ys)) all ∙ sym (ap (λ t. t.children) own)) before,
        subst (λ (us : List Tree). IsSortOf (map tree_of done) us) (sym kids) sort,
      ),
    )

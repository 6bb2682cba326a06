-- Sorts of cut paths by their names.
use Rattle.std.specs.Cmp.{IsStrictWeakOrder}
use Rattle.std.specs.Cmp.Lexicographic.{slice_cmp}
use Rattle.std.specs.List.{filter}
use Rattle.std.specs.List.Sorted.{IsSortedBy, IsStableBy, ties}
use Rattle.std.specs.Ordering.{is_lt, nat_cmp}
use Rattle.std.specs.Prelude.{min}
use Rattle.std.specs.Str.{bytes_eq}
use Rattle.std.proofs.Common.{◌≡◌, ◌∙◌, ℕ, zero, suc, ◌<◌, get_or, take, true, false, List, [], ◌∷◌, length, map, ap, sym, arith}
use Rattle.std.proofs.lemmas.Cmp.{nat_list_cmp_total}
use Rattle.std.proofs.lemmas.List.{get_or-take, length-take}
use Rattle.std.proofs.lemmas.List.MinMax.{ranks_by}
use Rattle.std.proofs.lemmas.List.Sorted.{sorted_far}
use Rattle.std.proofs.lemmas.Slice.Eq.{bytes_eq-Decides}
use Rattle.ptree_trees.proofs.Sorting.{filter-map, ties_if_same, same_by_elements}
use Rattle.ptree_trees.specs.PathGroups.{Cut, named, NoneAbove}

-- the order of names is one
pub names_rank : {X : Type 0} (view : X → Cut) → IsStrictWeakOrder (λ a b. is_lt (slice_cmp nat_cmp (view a).name (view b).name))
names_rank view = ranks_by nat_list_cmp_total (λ a. (view a).name)

module _ {X : Type 0} where
  module _ (view : X → Cut) where
    -- a stable sort by names leaves the cuts with one name in their order
    pub sorted_named : (xs ys : List X) → IsStableBy (λ a b. is_lt (slice_cmp nat_cmp (view a).name (view b).name)) xs ys → (n : List ℕ) → named n (map view ys) ≡ named n (map view xs)
    sorted_named xs ys h n = filter-map view (λ c. bytes_eq c.name n) ys ∙ ap (map view) (same_by_elements (λ x. bytes_eq (view x).name n) xs ys by_element) ∙ sym (filter-map view (λ c. bytes_eq c.name n) xs)
      where
        by_element : (z : X) → bytes_eq (view z).name n ≡ true → filter (λ x. bytes_eq (view x).name n) ys ≡ filter (λ x. bytes_eq (view x).name n) xs
        by_element z e =
            let same : (view z).name ≡ n = (bytes_eq-Decides (view z).name n).0 e in
            let tests : ties (λ a b. is_lt (slice_cmp nat_cmp (view a).name (view b).name)) z ≡ (λ x. bytes_eq (view x).name n) =
            λ i w. (ties_if_same (view z).name (view w).name ∙ ap (bytes_eq (view w).name) same) i in
            sym (ap (λ p. filter p ys) tests) ∙ h z ∙ ap (λ p. filter p xs) tests

    -- no name is above this one if none is by its place
    none_above : (n : List ℕ) (d : X) (xs : List X) → ((k : ℕ) → k < length xs → is_lt (slice_cmp nat_cmp n (view (get_or xs k d)).name) ≡ false) → NoneAbove (map view xs) n
    none_above n d [] h = tt
    none_above n d (x ∷ xs) h = (h zero (omega arith), none_above n d xs (λ k l. h (suc k) (omega (arith, l))))

    -- in sorted elements none before one is above it
    pub sorted_none_above : (ys : List X) (i : ℕ) (d : X) → IsSortedBy (λ a b. is_lt (slice_cmp nat_cmp (view a).name (view b).name)) ys → i < length ys
        → NoneAbove (map view (take i ys)) (view (get_or ys i d)).name
    sorted_none_above ys i d up l = none_above (view (get_or ys i d)).name d (take i ys) before
      where
        before : (k : ℕ) → k < length (take i ys) → is_lt (slice_cmp nat_cmp (view (get_or ys i d)).name (view (get_or (take i ys) k d)).name) ≡ false
        before k b =
            let bound : k < min i (length ys) = simp length-take at b in
            let short : k < i = omega (arith, bound) in
            rw (get_or-take i ys k d short) (sorted_far (λ a b. is_lt (slice_cmp nat_cmp (view a).name (view b).name)) (names_rank view) ys up k i d (omega arith) l)

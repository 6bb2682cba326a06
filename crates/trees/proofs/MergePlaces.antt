-- Sorted texts with their positions.
use Rattle.std.specs.List.Sorted.{IsSorted, IsBinarySearchResult, IsPermutation}
use Rattle.std.specs.Ordering.{is_lt, nat_cmp, ordering_reverse, ordering_then}
use Rattle.trees.proofs.Common.{◌≡◌, ◌≢◌, ◌∙◌, ℕ, ◌+◌, ◌<◌, ◌≤◌, ◌⊎◌, ◌++◌, false, Result, Ok, Err, List, [], ◌∷◌, Contains, length, get_or, Some, ap, refl, sym, subst, inl, inr, string_bytes, Bor, option_map, Ordering, Less, Equal, Greater, arith, IsTotalOrder, slice_cmp, cases_lt, false≢true, get_or_default, All-get_or, Contains-append_left, Contains-push, StringItem, out-StringItem, tree_of, tree_of_item}
use Rattle.std.proofs.lemmas.Cmp.{nat_list_cmp_total, nat_cmp_total, on_total, ranked, then_total, tied_itself}
use Rattle.std.proofs.lemmas.List.Sorted.{ranks_by, searchable_from_sorted, sorted_far, Contains-permutation}
use Rattle.std.proofs.lemmas.Map.Keys.{ge_from_not_lt}
use Rattle.std.proofs.lemmas.Map.Lookups.{exact_bytes}
use Rattle.std.proofs.lemmas.Option.{slice_get_read, slice_get_past}
use Rattle.trees.specs.MergingParts.{Place, place_cmp, text_at, ArePlaces, HasPlaces, IsFoundAt, LacksText}

-- the order of places is one
places_order : IsTotalOrder place_cmp
places_order = then_total (on_total (λ (p : Place). p.0.now) nat_list_cmp_total) (on_total (λ (p : Place). p.1) nat_cmp_total)

-- what a search finds is not less than what is searched for
not_before : (places : List Place) (p : Place) (r : Result ℕ ℕ) (at : ℕ) (found : Place) → IsSorted place_cmp places → IsBinarySearchResult (λ y. place_cmp y p) places r
    → (r ≡ Ok at) ⊎ (r ≡ Err at) → at < length places → found ≡ get_or places at found → is_lt (place_cmp found p) ≡ false
not_before places p (Ok i) at found up here e within is =
    let same : i ≡ at = elim e [ inl o ↦ (cc) | inr o ↦ absurd (cc) ] in
    ap (λ q. is_lt (place_cmp q p)) is ∙ ap is_lt (subst (λ (k : ℕ). place_cmp (get_or places k found) p ≡ Equal) same (here found))
not_before places p (Err i) at found up here e within is =
    let same : i ≡ at = elim e [ inl o ↦ absurd (cc) | inr o ↦ (cc) ] in
    let point = here (searchable_from_sorted places_order (λ (q : Place). q) places p up) in
    let last : i ≤ at = omega arith in
    ap (λ q. is_lt (place_cmp q p)) is ∙ ap is_lt (point.1 at found last within)

-- a text at a position is that of an item
at_within : (items : List StringItem) (i : ℕ) (text : List ℕ) → text_at items i ≡ Some text → i < length items
at_within items i text e = elim (cases_lt i (length items)) [
  | inl l ↦ l
  | inr h ↦ let none = ap (option_map (λ s. (tree_of s).text)) (slice_get_past items i h) in absurd (cc)
]

-- the text of an item is at its position
pub text_there : (items : List StringItem) (i : ℕ) (s : StringItem) (text : List ℕ) → i < length items → s ≡ get_or items i s → string_bytes (out-StringItem s).text ≡ text → text_at items i ≡ Some text
text_there items i s text l is e =
    ap (option_map (λ x. (tree_of x).text)) (slice_get_read items (length items) i s refl l is) ∙ ap (λ t. Some t.text) (tree_of_item s) ∙ ap Some e

-- with its place the next item is not without one
pub has_more : (items : List StringItem) (i : ℕ) (old new : List Place) (text : Bor (List ℕ)) → new ≡ old ++ (text, i) ∷ [] → text_at items i ≡ Some text.now → HasPlaces items i old → HasPlaces items (i + 1) new
has_more items i old new text pushed here all k own low has none = elim (cases_lt k i) [
  | inl l ↦ all k own l has (λ p held same. none p (subst (λ (ps : List Place). Contains ps p) (sym pushed) (Contains-append_left old ((text, i) ∷ []) p held)) same)
  | inr h ↦
      let last : k ≡ i = omega arith in
      let same : text.now ≡ own = (cc) in
      none (text, i) (subst (λ (ps : List Place). Contains ps (text, i)) (sym pushed) (Contains-push old (text, i))) same (sym last)
]

-- nor are items without one if the places are sorted
pub has_sorted : (items : List StringItem) (i : ℕ) (old new : List Place) → length items ≤ i → IsPermutation old new → HasPlaces items i old → HasPlaces items (length items) new
has_sorted items i old new long moved all k own low has none = all k own (omega arith) has (λ p held. none p (Contains-permutation old new p moved held))

-- an order by two parts is equal only if the first is
then_equal : (o p : Ordering) → ordering_then o p ≡ Equal → o ≡ Equal
then_equal Equal p e = refl
then_equal _ p e = e

-- what is less in neither order is equal
neither : (o p q : Ordering) → is_lt (ordering_then o p) ≡ false → is_lt (ordering_then (ordering_reverse o) q) ≡ false → o ≡ Equal
neither Less p q low high = absurd (false≢true (sym low))
neither Equal p q low high = refl
neither Greater p q low high = absurd (false≢true (sym high))

-- of places with one text the order is that of their positions
same_text : (p q : Place) → p.0.now ≡ q.0.now → place_cmp p q ≡ nat_cmp p.1 q.1
same_text p q same = ap (λ o. ordering_then o (nat_cmp p.1 q.1)) (ap (λ t. slice_cmp nat_cmp t q.0.now) same ∙ tied_itself nat_list_cmp_total q.0.now)

-- where a search for a text from a position on ends, and the place of a later item with the text: it is there or behind
module _ (items : List StringItem) (places : List Place) (from : ℕ) (text : Bor (List ℕ)) (are : ArePlaces items places) where
  -- what a search ends at
  abbrev pub EndsAt : Result ℕ ℕ → ℕ → Type 0
  EndsAt r at = IsBinarySearchResult (λ y. place_cmp y (text, from)) places r × ((r ≡ Ok at) ⊎ (r ≡ Err at))

  -- a search that finds nothing has not passed it
  not_passed : (at : ℕ) (q : Place) (j : ℕ) → IsBinarySearchResult (λ y. place_cmp y (text, from)) places (Err at) → j < length places → get_or places j q ≡ q → q.0.now ≡ text.now → from ≤ q.1 → at ≤ j
  not_passed at q j here within is same late = elim (cases_lt j at) [
    | inl l ↦
        let point = here (searchable_from_sorted places_order (λ (p : Place). p) places (text, from) are.ascending) in
        let less : nat_cmp q.1 from ≡ Less = sym (same_text q (text, from) same) ∙ (ap (λ p. place_cmp p (text, from)) (sym is) ∙ point.0 j q (omega arith) l) in
        let below : q.1 < from = ranked q.1 from Less (sym less) in
        omega (arith, below, late)
    | inr h ↦ h
  ]

  -- no place behind another is less
  in_order : (i j : ℕ) (p q : Place) → i ≤ j → j < length places → p ≡ get_or places i p → get_or places j q ≡ q → is_lt (place_cmp q p) ≡ false
  in_order i j p q le within first second =
      let low : i < length places = omega arith in
      ap (λ x. is_lt (place_cmp x p)) (sym second) ∙ (ap (λ x. is_lt (place_cmp (get_or places j q) x)) (first ∙ get_or_default places i p q low)
      ∙ sorted_far (λ x y. is_lt (place_cmp x y)) (ranks_by places_order (λ (x : Place). x)) places are.ascending i j q le within)

  -- the place that the search ends at, if it has the text
  pub found_place : (r : Result ℕ ℕ) (at : ℕ) (found : Place) → HasPlaces items (length items) places → EndsAt r at → at < length places → found ≡ get_or places at found → found.0.now ≡ text.now → IsFoundAt items from text.now found.1
  found_place r at found all ends within is same =
      let there : text_at items found.1 ≡ Some text.now = subst (λ (p : Place). text_at items p.1 ≡ Some p.0.now) (sym is) (All-get_or (λ (p : Place). text_at items p.1 ≡ Some p.0.now) places at found within are.there) ∙ ap Some same in
      let later : is_lt (place_cmp found (text, from)) ≡ false = not_before places (text, from) r at found are.ascending ends.0 ends.1 within is in
      let behind : from ≤ found.1 = ge_from_not_lt found.1 from (sym (ap is_lt (same_text found (text, from) same)) ∙ later) in
      record {
        behind = behind;
        within = at_within items found.1 text.now there;
        same = there;
        first = λ k low high has. all k text.now (at_within items k text.now has) has (λ q held own place.
            let j = held.0 in
            elim ends.1 [
              | inl o ↦
                  let equal : place_cmp found (text, from) ≡ Equal = ap (λ p. place_cmp p (text, from)) is ∙ (subst (IsBinarySearchResult (λ y. place_cmp y (text, from)) places) o ends.0) found in
                  let here : found.1 ≡ from = ranked found.1 from Equal (sym (sym (same_text found (text, from) same) ∙ equal)) in
                  omega (arith, here, low, high)
              | inr o ↦
                  let at_most = not_passed at q j (subst (IsBinarySearchResult (λ y. place_cmp y (text, from)) places) o ends.0) held.1 held.2 own (omega (arith, low, place)) in
                  let order : is_lt (nat_cmp q.1 found.1) ≡ false = sym (ap is_lt (same_text q found (own ∙ sym same))) ∙ in_order at j found q at_most held.1 is held.2 in
                  let upto : found.1 ≤ q.1 = ge_from_not_lt q.1 found.1 order in
                  omega (arith, upto, high, place)
            ]);
      }

  -- if it ends behind all or at another text, there is none
  pub found_none : (r : Result ℕ ℕ) (at : ℕ) → HasPlaces items (length items) places → EndsAt r at → (r ≡ Ok at → at < length places)
      → ((found : Place) → at < length places → found ≡ get_or places at found → found.0.now ≢ text.now) → LacksText items from (length items) text.now
  found_none r at all ends bound other k low high has = all k text.now high has (λ q held own place.
      let j = held.0 in
      let f = get_or places at q in
      elim ends.1 [
        | inl o ↦
            let within = bound o in
            other f within (get_or_default places at q f within) (text_of_equal f ((subst (IsBinarySearchResult (λ y. place_cmp y (text, from)) places) o ends.0) q))
        | inr o ↦
            let at_most = not_passed at q j (subst (IsBinarySearchResult (λ y. place_cmp y (text, from)) places) o ends.0) held.1 held.2 own (omega (arith, low, place)) in
            let within : at < length places = omega (arith, at_most, held.1) in
            let is = get_or_default places at q f within in
            other f within is (text_between f q own (not_before places (text, from) r at f are.ascending ends.0 ends.1 within is) (in_order at j f q at_most held.1 is held.2))
      ]) where
        -- two places that are equal have one text
        text_of_equal : (p : Place) → place_cmp p (text, from) ≡ Equal → p.0.now ≡ text.now
        text_of_equal p e = exact_bytes p.0.now text.now (then_equal (slice_cmp nat_cmp p.0.now text.now) (nat_cmp p.1 from) e)

        -- what is between places with one text has it
        text_between : (p q : Place) → q.0.now ≡ text.now → is_lt (place_cmp p (text, from)) ≡ false → is_lt (place_cmp q p) ≡ false → p.0.now ≡ text.now
        text_between p q own low high = exact_bytes p.0.now text.now
            (neither (slice_cmp nat_cmp p.0.now text.now) (nat_cmp p.1 from) (nat_cmp q.1 p.1) low
            (sym (ap (λ o. is_lt (ordering_then o (nat_cmp q.1 p.1))) (ap (λ t. slice_cmp nat_cmp t p.0.now) own ∙ nat_list_cmp_total.antisymm text.now p.0.now)) ∙ high))

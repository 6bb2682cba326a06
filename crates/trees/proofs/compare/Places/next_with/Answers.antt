use Rattle.trees.proofs.Common.{◌≡◌, ◌≢◌, ◌<◌, ◌≤◌, ◌⊎◌, ◌∙◌, ℕ, true, false, List, Ok, Err, length, get_or, string_bytes, ap, sym, subst, arith, rules, false≢true, get_or_default, StringItem, out-StringItem}
use Rattle.std.specs.List.Sorted.{IsBinarySearchResult, IsSearchInRange}
use Rattle.trees.specs.MergingParts.{Place, place_cmp, HasPlaces, IsFoundAt, LacksText}
use Rattle.trees.proofs.MergePlaces.{text_there, EndsAt, found_place, found_none}
use Rattle.trees.proofs.compare.Places.next_with.Goals.{After-deref-2, then-is_empty+in_ok-self, else-is_empty, in-Ok, in-Ok-2}
use Rattle.trees.proofs.compare.Places.next_with.Goals as goal

pub returns-then-eq-clause-found : goal.returns-then-eq-clause-found
returns-then-eq-clause-found c =
    let items = c.args.self.now.items.now in
    let s = c.in-Some.item.now in
    let found = c.in-Some.ensures.lookup in
    let within : c.args.from < length items = omega (arith, found) in
    let same : string_bytes (out-StringItem s).text ≡ c.args.text.now = search rules in
    record { behind = omega arith; within = within; same = text_there items c.args.from s c.args.text.now within found.1 same; first = λ k low high. absurd (omega (arith, low, high)) }

-- the items are the same once their places are sorted
same_items : (c : After-deref-2) → c.if-is_empty.self.items.now ≡ c.args.self.now.items.now
same_items c = elim c.if-is_empty.branch [
  | then-is_empty+in_ok-self w ↦ ap (λ p. p.items.now) w.self-is
  | else-is_empty w ↦ ap (λ p. p.items.now) w.self-is
]

-- all of them have their places
all_places : (c : After-deref-2) → HasPlaces c.if-is_empty.self.items.now (length c.if-is_empty.self.items.now) c.if-is_empty.self.sorted.items
all_places c = elim c.if-is_empty.branch [
  | then-is_empty+in_ok-self w ↦ subst (λ p. HasPlaces p.items.now (length p.items.now) p.sorted.items) (sym w.self-is) w.in_ok-self.ensures.all
  | else-is_empty w ↦ subst (λ p. HasPlaces p.items.now (length p.items.now) p.sorted.items) (sym w.self-is) (c.args.self.now.places.all (λ none. let no : false ≡ true = search (rules, none) in false≢true no))
]

-- where the search ends
ends : (c : After-deref-2) → EndsAt c.if-is_empty.self.items.now c.if-is_empty.self.sorted.items c.args.from c.args.text c.if-is_empty.self.places.are c.binary_search.result c.match-binary_search.at
ends c =
    let searched : IsBinarySearchResult (λ y. place_cmp y (c.args.text, c.args.from)) c.if-is_empty.self.sorted.items c.binary_search.result =
    subst (λ (ps : List Place). IsBinarySearchResult (λ y. place_cmp y (c.args.text, c.args.from)) ps c.binary_search.result) c.deref.ensures.value c.binary_search.ensures.position in
    let one : (c.binary_search.result ≡ Ok c.match-binary_search.at) ⊎ (c.binary_search.result ≡ Err c.match-binary_search.at) = elim c.match-binary_search.branch [
      | in-Ok w ↦ subst (λ (k : ℕ). (c.binary_search.result ≡ Ok k) ⊎ (c.binary_search.result ≡ Err k)) (sym w.at-is) w.in-Ok.is
      | in-Ok-2 w ↦ subst (λ (k : ℕ). (c.binary_search.result ≡ Ok k) ⊎ (c.binary_search.result ≡ Err k)) (sym w.at-is) w.in-Ok.is
    ] in
    (searched, one)

-- it ends within the places, or behind them
bound : (c : After-deref-2) → c.binary_search.result ≡ Ok c.match-binary_search.at → c.match-binary_search.at < length c.if-is_empty.self.sorted.items
bound c e =
    let within : IsSearchInRange c.binary_search.result (length c.if-is_empty.self.sorted.items) = subst (λ (ps : List Place). IsSearchInRange c.binary_search.result (length ps)) c.deref.ensures.value c.binary_search.ensures.bound in
    subst (λ r. IsSearchInRange r (length c.if-is_empty.self.sorted.items)) e within

pub returns-in-Some-get-clause-found : goal.returns-in-Some-get-clause-found
returns-in-Some-get-clause-found c =
    let at_end = (goal.at.returns-in-Some-get-clause-found c).After-deref-2 in
    let items = c.if-is_empty.self.items.now in
    let places = c.if-is_empty.self.sorted.items in
    let text = c.args.text in
    let at = c.match-binary_search.at in
    let found : Place = c.in-Some-get.field-0.now in
    let lookup = c.in-Some-get.ensures.lookup in
    let within : at < length places = rw (sym c.deref-2.ensures.value) (omega (arith, lookup)) in
    let is : found ≡ get_or places at found = rw (sym c.deref-2.ensures.value) lookup.1 in
    let same : found.0.now ≡ text.now = search rules in
    subst (λ (xs : List StringItem). IsFoundAt xs c.args.from text.now found.1) (same_items at_end)
    (found_place items places c.args.from text c.if-is_empty.self.places.are c.binary_search.result at found (all_places at_end) (ends at_end) within is same)

-- none at another text
pub returns-in_default-get-clause-found : goal.returns-in_default-get-clause-found
returns-in_default-get-clause-found c =
    let at_end = (goal.at.returns-in_default-get-clause-found c).After-deref-2 in
    let items = c.if-is_empty.self.items.now in
    let places = c.if-is_empty.self.sorted.items in
    let at = c.match-binary_search.at in
    let found : Place = c.in-Some-get.field-0.now in
    let is : found ≡ get_or places at found = rw (sym c.deref-2.ensures.value) c.in-Some-get.ensures.lookup.1 in
    let other : found.0.now ≢ c.args.text.now = λ e. let no : false ≡ true = search (rules, e) in false≢true no in
    subst (λ (xs : List StringItem). LacksText xs c.args.from (length xs) c.args.text.now) (same_items at_end)
    (found_none items places c.args.from c.args.text c.if-is_empty.self.places.are c.binary_search.result at (all_places at_end) (ends at_end) (bound at_end)
    (λ p within here same. other (ap (λ (q : Place). q.0.now) (is ∙ (get_or_default places at found p within ∙ sym here)) ∙ same)))

-- nor behind all
pub returns-in_default-get-2-clause-found : goal.returns-in_default-get-2-clause-found
returns-in_default-get-2-clause-found c =
    let at_end = (goal.at.returns-in_default-get-2-clause-found c).After-deref-2 in
    let items = c.if-is_empty.self.items.now in
    let places = c.if-is_empty.self.sorted.items in
    subst (λ (xs : List StringItem). LacksText xs c.args.from (length xs) c.args.text.now) (same_items at_end)
    (found_none items places c.args.from c.args.text c.if-is_empty.self.places.are c.binary_search.result c.match-binary_search.at (all_places at_end) (ends at_end) (bound at_end)
    (λ p within here same. let past : length c.deref-2.result.now ≤ c.match-binary_search.at = search rules in absurd (omega (arith, within, past))))

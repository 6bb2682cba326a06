-- What the parts of merging do. What `perform` ensures doesn't cite this.
use Rattle.std.specs.Borrow.{Bor}
use Rattle.std.specs.Cmp.Lexicographic.{slice_cmp}
use Rattle.std.specs.List.Sorted.{IsSorted}
use Rattle.std.specs.Ordering.{ordering_then, nat_cmp}
use Rattle.std.specs.declared.cmp.Ordering.{Ordering}
use Rattle.std.specs.Prelude.{◌≡◌, ◌≢◌, ◌<◌, ◌≤◌, ℕ, List, [], All, Contains, Option, Some, length, option_map, slice_get}
use Rattle.ptree.specs.declared.item.StringItem.{StringItem}
use Rattle.ptree.specs.Tree.{tree_of}

-- the text of the item at a position, if there is one
abbrev pub text_at : List StringItem → ℕ → Option (List ℕ)
text_at items at = option_map (λ s. (tree_of s).text) (slice_get items at)

-- a text with a position
abbrev pub Place : Type 0
Place = Bor (List ℕ) × ℕ

-- texts are compared by their bytes, and equal ones by their positions
abbrev pub place_cmp : Place → Place → Ordering
place_cmp p q = ordering_then (slice_cmp nat_cmp p.0.now q.0.now) (nat_cmp p.1 q.1)

-- no item up to a position is without its place
abbrev pub HasPlaces : List StringItem → ℕ → List Place → Type 0
HasPlaces items to places = (k : ℕ) (text : List ℕ) → k < to → text_at items k ≡ Some text → ((p : Place) → Contains places p → p.0.now ≡ text → p.1 ≢ k) → ⊥

-- places of items, ascending
pub record ArePlaces (items : List StringItem) (places : List Place) : Type 0 where
  pub there : All (λ p. text_at items p.1 ≡ Some p.0.now) places
  pub ascending : IsSorted place_cmp places

-- the places of all items, or none
pub record AreAllOrNone (items : List StringItem) (places : List Place) : Type 0 where
  pub are : ArePlaces items places
  pub all : places ≢ [] → HasPlaces items (length items) places

-- no item from one position on and before another has a text
abbrev pub LacksText : List StringItem → ℕ → ℕ → List ℕ → Type 0
LacksText items from to text = (k : ℕ) → from ≤ k → k < to → text_at items k ≢ Some text

-- the first item with a text from a position on is at another one
pub record IsFoundAt (items : List StringItem) (from : ℕ) (text : List ℕ) (at : ℕ) : Type 0 where
  pub behind : from ≤ at
  pub within : at < length items
  pub same : text_at items at ≡ Some text
  pub first : LacksText items from at text

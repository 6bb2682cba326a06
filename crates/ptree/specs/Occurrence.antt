-- A graph as a tree in which each node is expanded once: its neighbours are below one of its
-- occurrences, and the others are leaves.
use Rattle.std.specs.Prelude.{◌≡◌, ◌≢◌, ◌↔◌, IsTrue, ℕ, zero, suc, ◌+◌, ◌-◌, ◌^◌, ◌<◌, Bool, true, false, if◌then◌else◌, nat_lt, List, [], ◌∷◌, ◌++◌, length, drop, map, count_by, Option, Some, option_map, unwrap_or, slice_get}
use Rattle.ptree.specs.declared.graph.Graph.{Graph}
use Rattle.ptree.specs.declared.graph.places.Occurrences.{Occurrences}
use Rattle.ptree.specs.declared.graph.places.Place.{Place}
use Rattle.ptree.specs.Address.{Address, at, Before}
use Rattle.ptree.specs.Graph.{weights_of}
use Rattle.ptree.specs.Shape.{Shape, unfolded_shape}
use Rattle.ptree.specs.Style.{StyleValue, painted_text}

-- Occurrences side by side: none, or a node's number, whether it is repeated and what is below it,
-- and then the occurrences after it.
pub data OccurrenceRow : Type 0 where
  none : OccurrenceRow
  item : (node : ℕ) (repeated : Bool) (children rest : OccurrenceRow) → OccurrenceRow

-- an occurrence of a node, and the occurrences below it
pub record OccurrenceTree : Type 0 where
  pub node : ℕ
  pub repeated : Bool
  pub children : OccurrenceRow

-- an occurrence over a row of occurrences
abbrev pub occurrence : ℕ → Bool → OccurrenceRow → OccurrenceTree
occurrence v r c = record { node = v; repeated = r; children = c }

-- the occurrences of a row, in order
abbrev pub occurrences : OccurrenceRow → List OccurrenceTree
occurrences none = []
occurrences (item v r c rest) = occurrence v r c ∷ occurrences rest

-- a list of occurrences, side by side
abbrev pub row : List OccurrenceTree → OccurrenceRow
row [] = none
row (p ∷ ps) = item p.node p.repeated p.children (row ps)

-- the occurrences right below one
abbrev pub occurrence_kids : OccurrenceTree → List OccurrenceTree
occurrence_kids p = occurrences p.children

-- at the address a of t is p
abbrev pub StandsAt : OccurrenceTree → Address → OccurrenceTree → Type 0
StandsAt t a p = at occurrence_kids t a ≡ Some p

-- before the address a, something is below an occurrence of v
abbrev pub IsExpandedBefore : OccurrenceTree → Address → ℕ → Type 0
IsExpandedBefore t a v = (b : Address) × (q : OccurrenceTree) × StandsAt t b q × (q.node ≡ v) × (occurrence_kids q ≢ []) × Before b a

-- The graph expanded once, from start down to depth. An occurrence is repeated exactly where an
-- earlier one of its node has something below it. Below one that is not repeated, and is above the
-- depth, are its node's neighbours in order; below any other is nothing.
pub record IsExpandedOnce (below : ℕ → List ℕ) (start depth : ℕ) (t : OccurrenceTree) : Type 0 where
  pub root : t.node ≡ start
  pub repeated : (a : Address) (p : OccurrenceTree) → StandsAt t a p → IsTrue p.repeated ↔ IsExpandedBefore t a p.node
  pub children : (a : Address) (p : OccurrenceTree) → StandsAt t a p
      → map (λ q. q.node) (occurrence_kids p) ≡ (if p.repeated then [] else (if nat_lt (length a) depth then below p.node else []))

-- one tree is the graph expanded once, and no other
abbrev pub HasOneTree : (ℕ → List ℕ) → ℕ → ℕ → Type 0
HasOneTree below start depth =
    (t : OccurrenceTree) × IsExpandedOnce below start depth t × ((other : OccurrenceTree) → IsExpandedOnce below start depth other → other ≡ t)

-- no occurrence is repeated
abbrev pub NoneRepeated : OccurrenceTree → Type 0
NoneRepeated t = (a : Address) (p : OccurrenceTree) → StandsAt t a p → p.repeated ≡ false

-- no occurrence of a node without neighbours is repeated
abbrev pub LeavesUnrepeated : (ℕ → List ℕ) → OccurrenceTree → Type 0
LeavesUnrepeated below t = (a : Address) (p : OccurrenceTree) → StandsAt t a p → below p.node ≡ [] → p.repeated ≡ false

-- before the address a, an occurrence of v is above the depth
abbrev pub IsMetBefore : ℕ → OccurrenceTree → Address → ℕ → Type 0
IsMetBefore depth t a v = (b : Address) × (q : OccurrenceTree) × StandsAt t b q × (q.node ≡ v) × (length b < depth) × Before b a

-- of the occurrences above the depth of a node with neighbours, exactly the first has something
-- below it
abbrev pub ExpandsFirst : (ℕ → List ℕ) → ℕ → OccurrenceTree → Type 0
ExpandsFirst below depth t =
    (a : Address) (p : OccurrenceTree) → StandsAt t a p → length a < depth → below p.node ≢ []
    → (occurrence_kids p ≢ []) ↔ (IsMetBefore depth t a p.node → ⊥)

-- somewhere in t, something is below an occurrence of v
abbrev pub IsExpanded : OccurrenceTree → ℕ → Type 0
IsExpanded t v = (b : Address) × (q : OccurrenceTree) × StandsAt t b q × (q.node ≡ v) × (occurrence_kids q ≢ [])

-- how many occurrences are in a row, and below
abbrev pub row_size : OccurrenceRow → ℕ
row_size none = 0
row_size (item v r c rest) = suc (row_size c + row_size rest)

-- how many occurrences a tree has
abbrev pub occurrence_count : OccurrenceTree → ℕ
occurrence_count t = suc (row_size t.children)

-- there is one occurrence more than there are edges from nodes that are expanded
abbrev pub HasSize : List (ℕ × ℕ) → OccurrenceTree → Type 0
HasSize edges t =
    (expanded : ℕ → Bool) × ((v : ℕ) → IsTrue (expanded v) ↔ IsExpanded t v) × (occurrence_count t ≡ suc (count_by (λ e. expanded e.0) edges))

-- the place of an occurrence: its node, and how many occurrences there are here and below, or 0 if
-- it is repeated
abbrev pub its_place : ℕ → Bool → OccurrenceRow → Place
its_place v r c = record { node = record { 0 = v }; size = if r then 0 else suc (row_size c) }

-- the places of a row, in order: each occurrence's own, and then those of what is below it
abbrev pub row_places : OccurrenceRow → List Place
row_places none = []
row_places (item v r c rest) = its_place v r c ∷ (row_places c ++ row_places rest)

-- the places of a tree
abbrev pub tree_places : OccurrenceTree → List Place
tree_places t = its_place t.node t.repeated t.children ∷ row_places t.children

-- an occurrence of size 0 is repeated
abbrev pub is_repeated_size : ℕ → Bool
is_repeated_size zero = true
is_repeated_size (suc n) = false

-- how many occurrences are below one of this size
abbrev pub size_below : ℕ → ℕ
size_below zero = 0
size_below (suc n) = n

-- The trees that the first places are, as many of them as `left` places make, in at most so
-- many steps. A place is a tree together with those after it that are below it by its size, and
-- the next tree begins after these.
--
-- This goes over the places as code does: a caller may make a list of any sizes, and each list
-- means a tree. Of a list that has a tree's places (`tree_places`), it is that tree.
abbrev pub trees_by : (steps left : ℕ) → List Place → List OccurrenceTree
trees_by zero left ps = []
trees_by (suc n) zero ps = []
trees_by (suc n) (suc left) [] = []
trees_by (suc n) (suc left) (p ∷ ps) =
    occurrence p.node.0 (is_repeated_size p.size) (row (trees_by n (size_below p.size) ps)) ∷ trees_by n (left - size_below p.size) (drop (size_below p.size) ps)

-- the trees that so many first places are: there are no more steps than places
abbrev pub trees_in : ℕ → List Place → List OccurrenceTree
trees_in left ps = trees_by (length ps) left ps

-- the tree that begins with the first place; where there is none, a node of a number that no graph
-- has
abbrev pub first_tree : List Place → OccurrenceTree
first_tree [] = occurrence (2 ^ 64 - 1) false none
first_tree (p ∷ ps) = occurrence p.node.0 (is_repeated_size p.size) (row (trees_in (size_below p.size) ps))

-- the tree that occurrences mean
abbrev pub occurrence_tree : Occurrences → OccurrenceTree
occurrence_tree o = first_tree o.places.items

-- the tree at one of their places
abbrev pub occurrence_at : Occurrences → ℕ → OccurrenceTree
occurrence_at o i = first_tree (drop i o.places.items)

-- the mark of an occurrence, if it is repeated
abbrev pub mark_text : List ℕ → Bool → List ℕ
mark_text mark r = if r then mark else []

-- what is written of a weight: its text and the mark, painted as one, and nothing where there is
-- none
abbrev pub weight_own : {N : Type 0} → (N → List ℕ) → List ℕ → Bool → Option N → StyleValue → List ℕ
weight_own text mark r weight style = unwrap_or (option_map (λ w. painted_text style (text w ++ mark_text mark r)) weight) []

-- what an occurrence writes: its node's weight, and nothing where there is no such node
abbrev pub occurrence_own : {N : Type 0} → (N → List ℕ) → Graph N → List ℕ → OccurrenceTree → StyleValue → List ℕ
occurrence_own text g mark p style = weight_own text mark p.repeated (slice_get (weights_of g) p.node) style

-- an occurrence as an item's meaning
abbrev pub occurrence_shape : {N : Type 0} → (N → List ℕ) → Graph N → List ℕ → OccurrenceTree → Shape
occurrence_shape text g mark p = unfolded_shape (occurrence_own text g mark) occurrence_kids p

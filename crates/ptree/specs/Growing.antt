-- The occurrences of a graph expanded once by recursion, as private functions say them. Public
-- contracts say them by addresses.
use Rattle.std.specs.Prelude.{◌≡◌, ℕ, zero, suc, ◌+◌, ◌-◌, ◌^◌, ◌<◌, Bool, true, false, if◌then◌else◌, Option, List, [], ◌∷◌, ◌++◌, length, drop, replicate, unwrap_or, slice_get, slice_set}
use Rattle.ptree.specs.declared.graph.Graph.{Graph}
use Rattle.ptree.specs.declared.graph.places.Place.{Place}
use Rattle.ptree.specs.Graph.{weights_of, edges_of, neighbors_of}
use Rattle.ptree.specs.Occurrence.{OccurrenceTree, occurrence, none, row, row_places, size_below, trees_in, weight_own}
use Rattle.ptree.specs.Shape.{Shape, over_shape}

-- an occurrence, and which nodes have occurrences below them by then
pub record Grown : Type 0 where
  pub occurrence : OccurrenceTree
  pub seen : List Bool

-- the two of them
abbrev pub grown : OccurrenceTree → List Bool → Grown
grown p seen = record { occurrence = p; seen = seen }

-- whether a node is expanded by then
abbrev pub is_seen : List Bool → ℕ → Bool
is_seen seen v = unwrap_or (slice_get seen v) false

-- a node with neighbours is seen from now on
abbrev pub enter : List ℕ → List Bool → ℕ → List Bool
enter [] seen v = seen
enter (u ∷ us) seen v = slice_set seen v true

-- the occurrences of some nodes, one after another
abbrev pub row_occurrences : (List Bool → ℕ → Grown) → List Bool → List ℕ → List OccurrenceTree
row_occurrences f seen [] = []
row_occurrences f seen (u ∷ us) = (f seen u).occurrence ∷ row_occurrences f (f seen u).seen us

-- which nodes are seen after them
abbrev pub row_seen : (List Bool → ℕ → Grown) → List Bool → List ℕ → List Bool
row_seen f seen [] = seen
row_seen f seen (u ∷ us) = row_seen f (f seen u).seen us

-- an occurrence over those of its node's neighbours
abbrev pub expand : (List Bool → ℕ → Grown) → List ℕ → List Bool → ℕ → Grown
expand f us seen v = grown (occurrence v false (row (row_occurrences f (enter us seen v) us))) (row_seen f (enter us seen v) us)

-- the occurrence of v, with at most so many levels below it
abbrev pub grow : (ℕ → List ℕ) → ℕ → List Bool → ℕ → Grown
grow below zero seen v = grown (occurrence v (is_seen seen v) none) seen
grow below (suc levels) seen v = if is_seen seen v then grown (occurrence v true none) seen else expand (grow below levels) (below v) seen v

-- the flags of n nodes, where the last ones that are not set are left out
abbrev pub all_flags : ℕ → List Bool → List Bool
all_flags n seen = seen ++ replicate (n - length seen) false

-- the flags of a graph's nodes
abbrev pub flags_of : {N : Type 0} → Graph N → List Bool → List Bool
flags_of g seen = all_flags (length (weights_of g)) seen

-- the occurrence of a node in a graph, with at most so many levels below it
abbrev pub grown_from : {N : Type 0} → Graph N → ℕ → List Bool → ℕ → Grown
grown_from g levels seen v = grow (neighbors_of (edges_of g)) levels (flags_of g seen) v

-- the occurrences of a node's neighbours, once the node is seen
abbrev pub kids_grown : (ℕ → List ℕ) → ℕ → List Bool → ℕ → List OccurrenceTree
kids_grown below levels seen v = row_occurrences (grow below levels) (enter (below v) seen v) (below v)

-- which nodes are seen after them
abbrev pub kids_seen : (ℕ → List ℕ) → ℕ → List Bool → ℕ → List Bool
kids_seen below levels seen v = row_seen (grow below levels) (enter (below v) seen v) (below v)

-- a place of a node
abbrev pub place_of : ℕ → ℕ → Place
place_of v size = record { node = record { 0 = v }; size = size }

-- the size of an occurrence with nothing below it
abbrev pub leaf_size : Bool → ℕ
leaf_size true = 0
leaf_size false = 1

-- the places are those of the trees, whatever follows them, and each has its size
pub record ArePlaces (ps : List Place) (ts : List OccurrenceTree) : Type 0 where
  pub trees : (left : ℕ) (rest : List Place) → trees_in (length ps + left) (ps ++ rest) ≡ ts ++ trees_in left rest
  pub places : ps ≡ row_places (row ts)

-- the places of the trees are appended
abbrev pub AppendsPlaces : List Place → List Place → List OccurrenceTree → Type 0
AppendsPlaces old new ts = (ps : List Place) × (new ≡ old ++ ps) × ArePlaces ps ts

-- the place of a number, or one of a node that no graph has
abbrev pub place_at : List Place → ℕ → Place
place_at ps i = unwrap_or (slice_get ps i) (place_of (2 ^ 64 - 1) 1)

-- the shape of an occurrence, without what is below it
abbrev pub leaf_shape : {N : Type 0} → (N → List ℕ) → Option N → List ℕ → Bool → Shape
leaf_shape text weight mark r = over_shape (weight_own text mark r weight) []

-- some places are left, and the first of them is at this index, with so many below it
abbrev pub IsNextPlace : List Place → (index left below : ℕ) → Type 0
IsNextPlace ps index left below =
    (p : Place) × (0 < left) × (below ≡ size_below p.size) × (drop index ps ≡ p ∷ drop (suc index) ps)

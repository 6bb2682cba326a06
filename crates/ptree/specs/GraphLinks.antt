-- What the private lists of a graph satisfy. No public clause cites this.
use Rattle.std.specs.Prelude.{◌≡◌, ℕ, zero, suc, ◌<◌, ◌==◌, List, [], ◌∷◌, length, map, reverse, take, Some, slice_get, All, if◌then◌else◌}
use Rattle.ptree.specs.declared.graph.Edge.{Edge}
use Rattle.ptree.specs.declared.graph.Node.{Node}

-- the numbers of an edge's source and target
abbrev pub ends_of : Edge → ℕ × ℕ
ends_of e = (e.source, e.target)

-- the number of the first edge from v, of edges listed newest first: the oldest has number 1, and 0
-- means that there is none
abbrev pub first_from : List (ℕ × ℕ) → ℕ → ℕ
first_from [] v = 0
first_from (e ∷ older) v = if e.0 == v then suc (length older) else first_from older v

-- the number of the newest edge from v
abbrev pub newest_from : List (ℕ × ℕ) → ℕ → ℕ
newest_from edges v = first_from (reverse edges) v

-- the edges, that at an index reversed
abbrev pub turned_at : ℕ → List (ℕ × ℕ) → List (ℕ × ℕ)
turned_at i [] = []
turned_at zero (e ∷ edges) = (e.1, e.0) ∷ edges
turned_at (suc i) (e ∷ edges) = e ∷ turned_at i edges

-- the edges, the first so many of them reversed
abbrev pub turned_first : ℕ → List (ℕ × ℕ) → List (ℕ × ℕ)
turned_first n [] = []
turned_first zero (e ∷ edges) = e ∷ edges
turned_first (suc n) (e ∷ edges) = (e.1, e.0) ∷ turned_first n edges

-- both ends of an edge are among the first n nodes
abbrev pub EndsBelow : ℕ → Edge → Type 0
EndsBelow count e = (e.source < count) × (e.target < count)

-- each end is a node, each node has the number of its newest edge, and each edge that of the next
-- older one from its source
pub record IsLinked {N : Type 0} (nodes : List (Node N)) (edges : List Edge) : Type 0 where
  pub ends : All (EndsBelow (length nodes)) edges
  pub newest : (v : ℕ) (n : Node N) → slice_get nodes v ≡ Some n → n.newest ≡ newest_from (map ends_of edges) v
  pub next : (i : ℕ) (e : Edge) → slice_get edges i ≡ Some e → e.next ≡ newest_from (take i (map ends_of edges)) e.source

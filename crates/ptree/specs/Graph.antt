-- What a contract sees of a graph.
use Rattle.std.specs.Prelude.{ℕ, zero, suc, ◌≤◌, ◌==◌, ◌⊎◌, List, [], map, reverse, filter, slice_get, option_map, unwrap_or}
use Rattle.ptree.specs.declared.graph.Graph.{Graph}
use Rattle.ptree.specs.declared.graph.NodeIndex.{NodeIndex}
use Rattle.ptree.specs.Shape.{Shape, unfolded_shape}
use Rattle.ptree.specs.Style.{StyleValue, painted_text}
use Rattle.ptree.specs.Tree.{Tree, tree, none, forest}

-- the weights of the nodes, in the order of their numbers
abbrev pub weights_of : {N : Type 0} → Graph N → List N
weights_of g = map (λ n. n.weight) g.nodes.items

-- the edges, oldest first, each as the numbers of its source and its target
abbrev pub edges_of : {N : Type 0} → Graph N → List (ℕ × ℕ)
edges_of g = map (λ e. (e.source, e.target)) g.edges.items

-- the numbers of two nodes
abbrev pub numbers_of : NodeIndex × NodeIndex → ℕ × ℕ
numbers_of p = (p.0.0, p.1.0)

-- one of two nodes is not among the first n
abbrev pub LacksNode : ℕ → NodeIndex × NodeIndex → Type 0
LacksNode count p = (count ≤ p.0.0) ⊎ (count ≤ p.1.0)

-- an edge reversed
abbrev pub turned : ℕ × ℕ → ℕ × ℕ
turned e = (e.1, e.0)

-- the targets of the edges from v, newest edge first
abbrev pub neighbors_of : List (ℕ × ℕ) → ℕ → List ℕ
neighbors_of edges v = map (λ e. e.1) (filter (λ e. e.0 == v) (reverse edges))

-- what a node writes: its weight's text painted, or nothing if there is no such node
abbrev pub node_own : {N : Type 0} → (N → List ℕ) → Graph N → ℕ → StyleValue → List ℕ
node_own text g v style = unwrap_or (option_map (λ w. painted_text style (text w)) (slice_get (weights_of g) v)) []

-- the shape of a node, which is infinite if the graph has a cycle
abbrev pub node_shape : {N : Type 0} → (N → List ℕ) → Graph N → ℕ → Shape
node_shape text g v = unfolded_shape (node_own text g) (neighbors_of (edges_of g)) v

-- the text of a node's weight
abbrev pub node_text : {N : Type 0} → (N → List ℕ) → Graph N → ℕ → List ℕ
node_text text g v = unwrap_or (option_map text (slice_get (weights_of g) v)) []

-- the tree of the walks from v of at most n steps
abbrev pub walks : {N : Type 0} → (N → List ℕ) → Graph N → ℕ → ℕ → Tree
walks text g v zero = tree (node_text text g v) none
walks text g v (suc d) = tree (node_text text g v) (forest (map (λ u. walks text g u d) (neighbors_of (edges_of g) v)))

-- Graphs as C gives them.
use Rattle.std.specs.Prelude.{◌≡◌, ℕ, ◌-◌, List, [], ◌∷◌, Option, Some, None, map, take, drop, string_bytes, String}
use Rattle.std.specs.declared.alloc.Global.{Global}
use Rattle.ptree.specs.Drawing.{Look, IsDrawing}
use Rattle.ptree.specs.Graph.{weights_of, edges_of, neighbors_of, node_shape}
use Rattle.ptree.specs.Occurrence.{OccurrenceTree, IsExpandedOnce, occurrence_shape}
use Rattle.ptree.specs.declared.graph.Graph.{Graph}
use Rattle.ptree_c.specs.Rooms.{HasPut}
use Rattle.ptree_c.specs.declared.graph.Edge.{Edge}
use Rattle.ptree_c.specs.declared.room.Found.{Found}

-- the labels of nodes by the places where their texts end, where the first one's begins at place from
abbrev pub labels_from : ℕ → List ℕ → List ℕ → List (List ℕ)
labels_from from texts [] = []
labels_from from texts (e ∷ ends) = take (e - from) (drop from texts) ∷ labels_from e texts ends

-- the edges as pairs
abbrev pub edge_pairs : List Edge → List (ℕ × ℕ)
edge_pairs edges = map (λ e. (e.source, e.target)) edges

-- the graph has these labels and edges
abbrev pub IsGraphOf : List ℕ → List ℕ → List Edge → Graph (String Global) → Type 0
IsGraphOf ends texts edges g = (map string_bytes (weights_of g) ≡ labels_from 0 texts ends) × (edges_of g ≡ edge_pairs edges)

-- the bytes are the drawing from a node: of all walks, or with a mark that of each node expanded once
abbrev pub IsGraphDrawing : Option (List ℕ) → Look → ℕ → Graph (String Global) → ℕ → List ℕ → Type 0
IsGraphDrawing None look depth g start drawing = IsDrawing look (node_shape string_bytes g start) depth drawing
IsGraphDrawing (Some mark) look depth g start drawing =
    (t : OccurrenceTree) × IsExpandedOnce (neighbors_of (edges_of g)) start depth t × IsDrawing look (occurrence_shape string_bytes g mark t) depth drawing

-- a call has put what is drawn of the graph with these labels and edges
abbrev pub HasPutGraph : (Graph (String Global) → List ℕ → Type 0) → List ℕ → List ℕ → List Edge → List ℕ → List ℕ → Found → Type 0
HasPutGraph IsDrawn ends texts edges old new found = (g : Graph (String Global)) × IsGraphOf ends texts edges g × HasPut (IsDrawn g) 0 old new found

use Rattle.std.proofs.Common.{◌≡◌, ◌++◌, length, map}
use Rattle.std.specs.Prelude.{string_bytes}
use Rattle.ptree.specs.Graph.{weights_of, edges_of}
use Rattle.ptree_c.specs.Graphs.{labels_from, edge_pairs}
use Rattle.ptree_c.proofs.graph.graph_of.Given as goal

-- the labels are all there, and the edges so far and those that are left are all
abbrev pub invariant-loop-edge : goal.invariant-loop-edge
invariant-loop-edge l =
    (map string_bytes (weights_of l.graph) ≡ labels_from 0 l.texts l.ends) × (edges_of l.graph ++ edge_pairs l.rest ≡ edge_pairs l.edges)

abbrev pub decreases-loop-edge : goal.decreases-loop-edge
decreases-loop-edge l = length l.rest

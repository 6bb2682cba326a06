use Rattle.std.proofs.Common.{◌≡◌, ◌++◌, [], length, map}
use Rattle.std.specs.Prelude.{string_bytes}
use Rattle.ptree.specs.Graph.{weights_of, edges_of}
use Rattle.ptree_c.specs.Graphs.{labels_from}
use Rattle.ptree_c.proofs.graph.graph_of_nodes.Given as goal

-- the labels so far and those of the ends that are left are all, and there is no edge
abbrev pub invariant-loop-end : goal.invariant-loop-end
invariant-loop-end l =
    (map string_bytes (weights_of l.graph) ++ labels_from l.from l.texts l.rest ≡ labels_from 0 l.texts l.ends)
    × (edges_of l.graph ≡ [])

abbrev pub decreases-loop-end : goal.decreases-loop-end
decreases-loop-end l = length l.rest

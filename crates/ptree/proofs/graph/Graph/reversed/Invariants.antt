use Rattle.ptree.specs.Graph.{weights_of, edges_of}
use Rattle.ptree.proofs.Graphs.Turned.{AreTurned}
use Rattle.ptree.proofs.graph.Graph.reversed.Given as goal

-- the edges so far are reversed and linked
abbrev pub invariant-loop-i : goal.invariant-loop-i
invariant-loop-i g l = AreTurned l.i (edges_of l.fn.self) (weights_of l.fn.self) l.nodes.items l.edges.items

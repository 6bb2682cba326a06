use Rattle.std.proofs.Common.{◌≡◌, ◌+◌, ◌-◌, ◌≤◌, ◌++◌, length, map, take, vec_len, vec_capacity}
use Rattle.ptree.specs.Graph.{weights_of, edges_of, numbers_of}
use Rattle.ptree.proofs.graph.Graph.extend_with_edges.Given as goal

-- the edges so far are added, and there is room for the rest
abbrev pub invariant-loop-source : goal.invariant-loop-source
invariant-loop-source g l = record {
  added : edges_of l.self ≡ edges_of l.fn.self ++ map numbers_of (take l.source-index l.edges);
  weights : weights_of l.self ≡ weights_of l.fn.self;
  room : vec_len l.self.edges + (length l.edges - l.source-index) ≤ vec_capacity l.self.edges;
}

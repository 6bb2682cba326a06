use Rattle.std.proofs.Common.{◌≡◌, map, take, All}
use Rattle.ptree.proofs.graph.unlink.Given as goal

-- the nodes so far have no edge, and all weights are as they were
abbrev pub invariant-loop-node : goal.invariant-loop-node
invariant-loop-node g l = record {
  newest : All (λ n. n.newest ≡ 0) (take l.node-index l.nodes);
  weights : map (λ n. n.weight) l.nodes ≡ map (λ n. n.weight) l.fn.nodes;
}

use Rattle.std.proofs.Common.{◌≡◌, ◌∙◌, arith, refl, subst, List, All}
use Rattle.std.proofs.Math.Seq.{map-set_same}
use Rattle.std.proofs.lemmas.List.{take_all}
use Rattle.ptree.specs.declared.graph.Node.{Node}
use Rattle.ptree.proofs.Graphs.Turned.{unlink_more}
use Rattle.ptree.proofs.graph.unlink.Goals as goal

pub loop-node-preserved : goal.loop-node-preserved
loop-node-preserved g c =
    let nodes = c.loop-node.nodes in
    record {
      newest = unlink_more nodes c.loop-node.node-index _ (omega arith) (omega arith) c.loop-node.invariant.newest;
      weights = map-set_same (λ (n : Node g.row.N.Denot). n.weight) nodes c.loop-node.node-index _ c.node-item.result refl ∙ c.loop-node.invariant.weights;
    }

pub returns-clause-newest : goal.returns-clause-newest
returns-clause-newest g c =
    subst (λ (ns : List (Node g.row.N.Denot)). All (λ (n : Node g.row.N.Denot). n.newest ≡ 0) ns) (take_all c.loop-node.node-index c.loop-node.nodes (omega arith)) c.loop-node.invariant.newest

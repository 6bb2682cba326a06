use Rattle.std.proofs.Common.{◌≡◌, ◌+◌, ap, ◌∙◌, is_ok, if◌then◌else◌, vec_len, arith}
use Rattle.std.proofs.Math.Seq.{map-set_same}
use Rattle.ptree.specs.declared.graph.Node.{Node}
use Rattle.ptree.proofs.Graphs.Links.{linked-edge_by}
use Rattle.ptree.proofs.graph.Graph.add_edge.Goals as goal

pub invariant_of-self : goal.invariant_of-self
invariant_of-self g c =
    let grew = c.push.ensures.succeeds c.requires.room in
    let held : vec_len c.push.new.self ≡ vec_len c.args.self.now.edges + 1 =
    c.push.ensures.len ∙ ap (λ b. if b then vec_len c.args.self.now.edges + 1 else vec_len c.args.self.now.edges) grew in
    record {
      linked = linked-edge_by _ _ _ c.args.source c.args.target c.len-newest.result c.saturating_add-node.result c.index.result.now c.index_mut-node.result.now (is_ok c.push.result)
          c.args.self.now.linked (omega arith) (omega arith) c.index.ensures c.index_mut-node.ensures.value grew (omega arith) c.push.ensures.items;
    }

pub returns-clause-weights : goal.returns-clause-weights
returns-clause-weights g c =
    map-set_same (λ (n : Node g.row.N.Denot). n.weight) _ c.args.source _ c.index_mut-node.result.now (ap (λ (n : Node g.row.N.Denot). n.weight) c.index_mut-node.ensures.value)

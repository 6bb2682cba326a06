use Rattle.std.proofs.Common.{is_ok, arith}
use Rattle.ptree.proofs.Graphs.Links.{linked-node_if}
use Rattle.std.proofs.lemmas.Grind.{common_steps}
use Rattle.ptree.proofs.graph.Graph.add_node.Goals as goal

pub invariant_of-self : goal.invariant_of-self
invariant_of-self g c = record {
  linked = linked-node_if _ _ _ c.args.weight (is_ok c.push.result) c.args.self.now.linked c.push.ensures.items;
}

pub returns-clause-number : goal.returns-clause-number
returns-clause-number g c = grind (arith, common_steps)

pub returns-clause-ok : goal.returns-clause-ok
returns-clause-ok g c = grind (arith, common_steps)

use Rattle.std.proofs.Common.{rules, arith}
use Rattle.std.proofs.lemmas.Grind.{elements}
use Rattle.std.proofs.lemmas.Option.{slice_get-get_or}
use Rattle.ptree.proofs.Graphs.Links.{edge}
use Rattle.ptree.proofs.Graphs.Turned.{linked_turned, ends_turned, turned_weights}
use Rattle.ptree.proofs.graph.turn_edge.Goals as goal

pub returns-clause-linked : goal.returns-clause-linked
returns-clause-linked g c = linked_turned c.args.nodes.now c.args.edges.now c.args.i _ _ _ c.requires.within c.requires.ends c.requires.linked

pub returns-clause-edges : goal.returns-clause-edges
returns-clause-edges g c = ends_turned c.args.edges.now c.args.i _ _ (slice_get-get_or c.args.edges.now c.args.i (edge 0 0 0) c.requires.within) (search rules) (search rules)

pub returns-clause-weights : goal.returns-clause-weights
returns-clause-weights g c = turned_weights c.args.nodes.now c.args.edges.now c.args.i _ _ c.index-nodes-source.result c.requires.within c.requires.ends

pub returns-clause-ends : goal.returns-clause-ends
returns-clause-ends g c = grind (arith, elements)

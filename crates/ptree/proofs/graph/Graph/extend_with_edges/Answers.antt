use Rattle.std.proofs.Common.{arith}
use Rattle.std.proofs.lemmas.Grind.{common_steps, elements}
use Rattle.ptree.proofs.graph.Graph.extend_with_edges.Goals as goal

pub loop-source-preserved : goal.loop-source-preserved
loop-source-preserved g c = grind (arith, common_steps)

pub returns-clause-ok : goal.returns-clause-ok
returns-clause-ok g c = grind (arith, common_steps)

pub add_edge-requires-clause-source : goal.add_edge-requires-clause-source
add_edge-requires-clause-source g c = grind (arith, elements)

pub add_edge-requires-clause-target : goal.add_edge-requires-clause-target
add_edge-requires-clause-target g c = grind (arith, elements)

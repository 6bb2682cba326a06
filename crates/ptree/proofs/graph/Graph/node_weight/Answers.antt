use Rattle.std.proofs.Common.{arith}
use Rattle.std.proofs.lemmas.Grind.{elements}
use Rattle.ptree.proofs.graph.Graph.node_weight.Goals as goal

pub returns-in_err-get : goal.returns-in_err-get
returns-in_err-get g c = grind (arith, elements)

pub returns : goal.returns
returns g c = grind (arith, elements)

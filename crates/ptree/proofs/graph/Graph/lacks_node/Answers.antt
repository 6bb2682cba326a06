use Rattle.std.proofs.Common.{arith}
use Rattle.std.proofs.lemmas.Grind.{elements}
use Rattle.ptree.proofs.graph.Graph.lacks_node.Goals as goal

pub returns : goal.returns
returns g c = grind (arith, elements)

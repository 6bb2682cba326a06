use Rattle.std.proofs.Common.{sym, arith}
use Rattle.std.proofs.lemmas.Grind.{common_steps, elements}
use Rattle.ptree.proofs.Graphs.Links.{newest_of_none}
use Rattle.ptree.proofs.graph.Graph.newest.Goals as goal

pub returns-in-None-clause-newest : goal.returns-in-None-clause-newest
returns-in-None-clause-newest g c =
    sym (newest_of_none _ _ c.args.a.0 c.args.self.now.linked (omega (arith, c.in-None.ensures.lookup)))

pub returns-in-Some-clause-no_node : goal.returns-in-Some-clause-no_node
returns-in-Some-clause-no_node g c = grind (arith, common_steps)

pub returns-in-Some-clause-newest : goal.returns-in-Some-clause-newest
returns-in-Some-clause-newest g c = grind (arith, elements)

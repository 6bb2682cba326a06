use Rattle.ptree.specs.Drawing.{written_look}
use Rattle.ptree.proofs.Graphs.Agreement.{drawing_where_none_repeated}
use Rattle.ptree.proofs.Graphs.Growth.{graph_has_one}
use Rattle.ptree.proofs.graph.once.write_graph_once_with.Goals as goal

pub returns-clause-one_tree : goal.returns-clause-one_tree
returns-clause-one_tree g c = graph_has_one c.args.graph.now c.args.start.0 c.args.config.now.depth

pub returns-clause-walks : goal.returns-clause-walks
returns-clause-walks g c =
    drawing_where_none_repeated g.N.Label.text c.args.graph.now c.args.mark.now (written_look c.args.config.now) c.args.start.0 c.args.config.now.depth

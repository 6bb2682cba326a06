use Rattle.std.proofs.Common.{false}
use Rattle.ptree.specs.declared.print_config.OutputKind.TheVariants.{Unknown}
use Rattle.ptree.specs.Drawing.{config_look}
use Rattle.ptree.proofs.Graphs.Walks.{drawing_of_walks}
use Rattle.ptree.proofs.graph.drawing.write_graph_with.Goals as goal

pub returns-clause-walks : goal.returns-clause-walks
returns-clause-walks g c = λ h.
    drawing_of_walks g.N.Label.text c.args.graph.now (config_look c.args.config.now Unknown false) c.args.config.now.depth c.args.start.0 h

use Rattle.ptree.specs.declared.print_config.OutputKind.TheVariants.{Stdout}
use Rattle.ptree.specs.Drawing.{look_by}
use Rattle.ptree.specs.Loading.{effective_config}
use Rattle.ptree.proofs.Graphs.Walks.{drawing_of_walks}
use Rattle.ptree.proofs.graph.drawing.print_graph.Goals as goal

pub returns-clause-walks : goal.returns-clause-walks
returns-clause-walks g c =
    let effective = effective_config c.args.sources.now in
    drawing_of_walks g.N.Label.text c.args.graph.now (look_by effective Stdout c.args.terminal) effective.depth c.args.start.0

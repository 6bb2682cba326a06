use Rattle.std.proofs.Common.{sym}
use Rattle.ptree.specs.declared.print_config.OutputKind.TheVariants.{Stdout}
use Rattle.ptree.specs.Drawing.{look_by}
use Rattle.ptree.specs.Loading.{effective_config}
use Rattle.ptree.specs.Occurrence.{occurrence_shape}
use Rattle.ptree.proofs.Graphs.Agreement.{drawing_where_none_repeated}
use Rattle.ptree.proofs.Drawing.Drawn.{drawn_nothing, whole_nothing}
use Rattle.ptree.proofs.Graphs.Growth.{graph_has_one}
use Rattle.ptree.proofs.graph.once.print_graph_once.Goals as goal

pub returns-clause-bytes : goal.returns-clause-bytes
returns-clause-bytes g c = rw (sym c.in_ok-config.ensures.value) c.draw_once-drawn.ensures.bytes

pub returns-clause-whole : goal.returns-clause-whole
returns-clause-whole g c = rw (sym c.in_ok-config.ensures.value) c.draw_once-drawn.ensures.whole

pub returns-clause-one_tree : goal.returns-clause-one_tree
returns-clause-one_tree g c = graph_has_one c.args.graph.now c.args.start.0 (effective_config c.args.sources.now).depth

pub returns-clause-walks : goal.returns-clause-walks
returns-clause-walks g c =
    let effective = effective_config c.args.sources.now in
    drawing_where_none_repeated g.N.Label.text c.args.graph.now c.args.mark.now (look_by effective Stdout c.args.terminal) c.args.start.0 effective.depth

pub returns-in_err-config-clause-bytes : goal.returns-in_err-config-clause-bytes
returns-in_err-config-clause-bytes g c =
    let effective = effective_config c.args.sources.now in
    λ t h. drawn_nothing _ (look_by effective Stdout c.args.terminal) (occurrence_shape g.N.Label.text c.args.graph.now c.args.mark.now t) effective.depth _ _ c.from_residual.ensures.1

pub returns-in_err-config-clause-whole : goal.returns-in_err-config-clause-whole
returns-in_err-config-clause-whole g c =
    let effective = effective_config c.args.sources.now in
    λ t h. whole_nothing (look_by effective Stdout c.args.terminal) (occurrence_shape g.N.Label.text c.args.graph.now c.args.mark.now t) effective.depth _ _

pub returns-in_err-config-clause-one_tree : goal.returns-in_err-config-clause-one_tree
returns-in_err-config-clause-one_tree g c = graph_has_one c.args.graph.now c.args.start.0 (effective_config c.args.sources.now).depth

pub returns-in_err-config-clause-walks : goal.returns-in_err-config-clause-walks
returns-in_err-config-clause-walks g c =
    let effective = effective_config c.args.sources.now in
    drawing_where_none_repeated g.N.Label.text c.args.graph.now c.args.mark.now (look_by effective Stdout c.args.terminal) c.args.start.0 effective.depth

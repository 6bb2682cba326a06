use Rattle.ptree.specs.Drawing.{config_look}
use Rattle.ptree.specs.Occurrence.{OccurrenceTree, occurrence_shape}
use Rattle.ptree.specs.Writing.{IsDrawn, LeavesWholeEntries}
use Rattle.ptree.proofs.Graphs.Growth.{of_expanded}
use Rattle.ptree.proofs.graph.once.draw_once.Goals as goal

pub returns-clause-bytes : goal.returns-clause-bytes
returns-clause-bytes g c =
    of_expanded c.args.graph.now c.args.start.0 c.args.config.now.depth
    (λ (z : OccurrenceTree). IsDrawn (config_look c.args.config.now c.args.output_kind c.args.terminal) (occurrence_shape g.N.Label.text c.args.graph.now c.args.mark.now z) c.args.config.now.depth
    (g.W.Sink.contents c.args.f.now) (g.W.Sink.contents c.draw_for.new.f) c.draw_for.result) c.draw_for.ensures.bytes

pub returns-clause-whole : goal.returns-clause-whole
returns-clause-whole g c =
    of_expanded c.args.graph.now c.args.start.0 c.args.config.now.depth
    (λ (z : OccurrenceTree). LeavesWholeEntries (config_look c.args.config.now c.args.output_kind c.args.terminal) (occurrence_shape g.N.Label.text c.args.graph.now c.args.mark.now z) c.args.config.now.depth
    (g.W.Sink.contents c.args.f.now) (g.W.Sink.contents c.draw_for.new.f) c.draw_for.result) c.draw_for.ensures.whole

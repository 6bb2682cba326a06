use Rattle.ptree.specs.Drawing.{config_look}
use Rattle.ptree.specs.Looks.{look_of}
use Rattle.ptree.proofs.Drawing.Drawn.{drawn_nothing, drawn_under, whole_nothing, whole_under}
use Rattle.ptree.proofs.output.draw_for.Goals as goal

pub returns-in_err-look-clause-bytes : goal.returns-in_err-look-clause-bytes
returns-in_err-look-clause-bytes g c = drawn_nothing _ (config_look c.args.config.now c.args.output_kind c.args.terminal) _ _ _ _ c.from_residual.ensures.1

pub returns-clause-bytes : goal.returns-clause-bytes
returns-clause-bytes g c =
    drawn_under (look_of c.in_ok-look.look) _ (g.D.Drawn.shape_to c.args.root.now c.args.config.now.depth) c.args.config.now.depth
    (g.W.Sink.contents c.args.f.now) (g.W.Sink.contents c.draw.new.f) c.draw.result c.in_ok-look.ensures c.draw.ensures.bytes

pub returns-in_err-look-clause-whole : goal.returns-in_err-look-clause-whole
returns-in_err-look-clause-whole g c = whole_nothing (config_look c.args.config.now c.args.output_kind c.args.terminal) (g.D.Drawn.shape_to c.args.root.now c.args.config.now.depth) c.args.config.now.depth _ _

pub returns-clause-whole : goal.returns-clause-whole
returns-clause-whole g c =
    whole_under (look_of c.in_ok-look.look) _ (g.D.Drawn.shape_to c.args.root.now c.args.config.now.depth) c.args.config.now.depth
    (g.W.Sink.contents c.args.f.now) (g.W.Sink.contents c.draw.new.f) c.draw.result c.in_ok-look.ensures c.draw.ensures.whole

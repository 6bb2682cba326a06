use Rattle.std.proofs.Common.{sym}
use Rattle.ptree.specs.Drawing.{look_by}
use Rattle.ptree.specs.Loading.{effective_config}
use Rattle.ptree.proofs.Drawing.Drawn.{drawn_nothing, whole_nothing}
use Rattle.ptree.proofs.output.draw_by_sources.Goals as goal

pub returns-clause-bytes : goal.returns-clause-bytes
returns-clause-bytes g c = rw (sym c.in_ok-config.ensures.value) c.draw_for-drawn.ensures.bytes

pub returns-clause-whole : goal.returns-clause-whole
returns-clause-whole g c = rw (sym c.in_ok-config.ensures.value) c.draw_for-drawn.ensures.whole

pub returns-in_err-config-clause-bytes : goal.returns-in_err-config-clause-bytes
returns-in_err-config-clause-bytes g c = drawn_nothing _ (look_by (effective_config c.args.sources.now) c.args.output_kind c.args.terminal) _ _ _ _ c.from_residual.ensures.1

pub returns-in_err-config-clause-whole : goal.returns-in_err-config-clause-whole
returns-in_err-config-clause-whole g c = let effective = effective_config c.args.sources.now in whole_nothing (look_by effective c.args.output_kind c.args.terminal) (g.T.Shaped.shape c.args.item.now) effective.depth _ _

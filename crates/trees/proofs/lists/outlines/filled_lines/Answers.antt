use Rattle.trees.proofs.Common.{◌∙◌, ap, filter, YieldsList-end, YieldsList-from_lines}
use Rattle.trees.specs.Outlining.{is_filled}
use Rattle.trees.proofs.lists.outlines.filled_lines.Goals as goal

pub returns : goal.returns
returns c =
    let end = YieldsList-end (YieldsList-from_lines c.args.text.now (cc)) c.loop-line.yielded _ c.loop-line.yielded_by _ _ c.in-None.is c.next.ensures.steps in
    c.loop-line.invariant ∙ ap (filter is_filled) end.0

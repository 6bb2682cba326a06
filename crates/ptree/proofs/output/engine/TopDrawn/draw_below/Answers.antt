use Rattle.std.proofs.Common.{◌∙◌, ◌-◌, [], ap, sym, map}
use Rattle.std.proofs.lemmas.List.{append-nil}
use Rattle.ptree.specs.Entries.{kid_entries, entries_below}
use Rattle.ptree.specs.Looks.{look_of}
use Rattle.ptree.specs.Shape.{kids}
use Rattle.ptree.specs.Style.{start_codes}
use Rattle.ptree.proofs.Drawing.Engine.{all_below}
use Rattle.ptree.proofs.Sinks.Written.{entries_none, entries_err}
use Rattle.ptree.proofs.output.engine.TopDrawn.draw_below.Goals as goal

pub returns-in_err-children-clause-bytes : goal.returns-in_err-children-clause-bytes
returns-in_err-children-clause-bytes g c =
    let look = look_of c.args.brush.now.look in
    let below = kid_entries look (entries_below look (c.args.depth - 1)) [] (kids (g.T.Shaped.shape c.args.self.now.0.now)) in
    entries_err _ _ _ _ _ _ c.from_residual.ensures.1 (entries_none _ c.args.pen.now.error below)

pub returns-clause-bytes : goal.returns-clause-bytes
returns-clause-bytes g c =
    let look = look_of c.args.brush.now.look in
    all_below look (entries_below look (c.args.depth - 1)) [] (g.T.Shaped.shape c.args.self.now.0.now) _ _ _ _ g.T.Child.Shaped.shape c.as_slice.result.now
    (ap (map g.T.Child.Shaped.shape) c.as_slice.ensures ∙ c.in_ok-children.ensures)
    (c.draw_children.ensures.bytes [] (c.requires.start ∙ sym (append-nil (start_codes look.branch))))

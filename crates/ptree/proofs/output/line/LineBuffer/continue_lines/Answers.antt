use Rattle.std.proofs.Common.{◌++◌, take, sym, ap, ◌∙◌}
use Rattle.std.proofs.lemmas.List.{take-append-drop}
use Rattle.ptree.specs.Line.{line_bytes}
use Rattle.ptree.specs.Looks.{look_of, further_text}
use Rattle.ptree.proofs.Drawing.Inserted.{inserted_none}
use Rattle.ptree.proofs.output.line.LineBuffer.continue_lines.Goals as goal

pub returns-else-may_hold_line_feed-clause-line : goal.returns-else-may_hold_line_feed-clause-line
returns-else-may_hold_line_feed-clause-line c =
    let items = line_bytes c.args.self.now in
    let none = (rw c.deref.ensures.value at c.may_hold_line_feed.ensures) c.if-may_hold_line_feed.false in
    sym (ap (λ z. take c.args.start items ++ z) (inserted_none (take c.args.width items ++ further_text (look_of c.args.brush.now.look) c.args.last) _ none) ∙ take-append-drop c.args.start items)

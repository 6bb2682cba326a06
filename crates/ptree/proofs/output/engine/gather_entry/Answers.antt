use Rattle.std.proofs.Common.{◌≡◌, length, arith}
use Rattle.std.proofs.lemmas.Grind.{common_steps}
use Rattle.ptree.specs.Line.{line_bytes}
use Rattle.ptree.specs.Looks.{look_of}
use Rattle.ptree.proofs.Drawing.Engine.{entry_gathered}
use Rattle.ptree.proofs.output.engine.gather_entry.Goals as goal

pub returns-clause-entry : goal.returns-clause-entry
returns-clause-entry g c = λ outer is.
    let old = line_bytes c.args.pen.now.line in
    let wide : c.len-start.result ≡ length old = c.len-start.ensures in
    entry_gathered (look_of c.args.brush.now.look) c.args.width c.len-start.result old _ _ _ outer c.args.last (g.C.Shaped.shape c.args.item.now) c.requires.turned is
    c.in-Ok.ensures.bytes wide c.requires.width c.in_ok-continue_lines.ensures.line c.in_ok-end_line.ensures.line

pub continue_lines-requires-clause-start : goal.continue_lines-requires-clause-start
continue_lines-requires-clause-start g c = grind (arith, common_steps)

use Rattle.std.proofs.Common.{[], sym}
use Rattle.std.proofs.lemmas.List.{append-nil}
use Rattle.ptree.specs.Line.{line_bytes}
use Rattle.ptree.specs.Looks.{look_of}
use Rattle.ptree.proofs.Drawing.Standing.{stands_begun, root_cut}
use Rattle.ptree.proofs.output.writer.ItemWriter.restart.Goals as goal

pub invariant_of-self : goal.invariant_of-self
invariant_of-self c =
    let writer = c.args.self.now in
    let look = look_of writer.brush.look in
    let at = writer.stands in
    record {
      stands = stands_begun look (line_bytes writer.pen.line) _ [] writer.pen.turned c.cut.new.self.turned writer.root writer.rungs.items c.clear.new.self.items at c.clear.ensures.items c.cut.ensures.turned
          (root_cut look _ _ [] _ _ _ _ at c.cut.ensures.line (sym (append-nil (line_bytes c.cut.new.self.line))));
    }

use Rattle.std.proofs.Common.{◌∙◌, [], ◌++◌, ap, sym}
use Rattle.std.proofs.lemmas.List.{append-nil}
use Rattle.ptree.specs.Looks.{look_of}
use Rattle.ptree.specs.Line.{line_bytes}
use Rattle.ptree.specs.Rungs.{front_below}
use Rattle.ptree.proofs.Drawing.Standing.{stands_begun, root_cut}
use Rattle.ptree.proofs.output.writer.begin.Goals as goal

pub returns-in_err-append-clause-stands : goal.returns-in_err-append-clause-stands
returns-in_err-append-clause-stands c =
    stands_begun (look_of c.args.brush.now.look) (line_bytes c.args.pen.now.line) _ [] c.args.pen.now.turned c.cut.new.self.turned c.args.root c.args.rungs.now.items c.clear.new.self.items c.requires c.clear.ensures.items c.cut.ensures.turned
    (root_cut (look_of c.args.brush.now.look) _ _ [] _ _ _ _ c.requires c.cut.ensures.line (c.in_err-append.ensures.kept ∙ sym (append-nil (line_bytes c.cut.new.self.line))))

pub returns-clause-stands : goal.returns-clause-stands
returns-clause-stands c =
    stands_begun (look_of c.args.brush.now.look) (line_bytes c.args.pen.now.line) _ _ c.args.pen.now.turned c.cut.new.self.turned c.args.root c.args.rungs.now.items c.clear.new.self.items c.requires c.clear.ensures.items c.cut.ensures.turned
    (root_cut (look_of c.args.brush.now.look) _ _ _ _ _ _ _ c.requires c.cut.ensures.line c.in_ok-append.ensures.bytes)

pub returns-clause-front : goal.returns-clause-front
returns-clause-front c =
    root_cut (look_of c.args.brush.now.look) _ _ _ _ _ _ _ c.requires c.cut.ensures.line c.in_ok-append.ensures.bytes ∙ ap (λ z. front_below (look_of c.args.brush.now.look) [] ++ z) (c.as_bytes.ensures.value ∙ c.end.ensures)

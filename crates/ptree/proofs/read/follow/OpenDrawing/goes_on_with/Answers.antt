use Rattle.std.proofs.Common.{◌≡◌, [], ◌∷◌, ◌++◌, inr, sym, ◌∙◌, append_assoc, rules}
use Rattle.ptree.specs.Looks.{look_of}
use Rattle.ptree.proofs.Reading.OpenDrawings.{goes_on_if}
use Rattle.ptree.proofs.read.follow.OpenDrawing.goes_on_with.Goals as goal

pub read-requires-clause-lines : goal.read-requires-clause-lines
read-requires-clause-lines c =
    let text : c.as_str.result.now ≡ c.args.part.now ++ (c.args.line.now ++ 10 ∷ []) = search rules in
    inr (c.args.part.now ++ c.args.line.now, text ∙ sym (append_assoc c.args.part.now c.args.line.now (10 ∷ [])))

pub returns : goal.returns
returns c =
    let k = look_of c.args.frame.now.look in
    let depth = c.args.frame.now.depth in
    let text : c.as_str.result.now ≡ c.args.part.now ++ (c.args.line.now ++ 10 ∷ []) = search rules in
    goes_on_if k c.requires.readable depth c.args.part.now c.args.line.now c.as_str.result.now c.args.self.now c.in_ok-open.open c.read.new.self c.read.result text (c.in_ok-open.ensures k depth) c.read.ensures

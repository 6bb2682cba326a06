use Rattle.std.proofs.Common.{length, rules, sym, ap, ◌∙◌}
use Rattle.std.proofs.lemmas.Bool.{eqb-false}
use Rattle.ptree.specs.Looks.{look_of}
use Rattle.ptree.specs.OpenDrawing.{GoesOnNowhere, IsNext}
use Rattle.ptree.proofs.Reading.OpenDrawings.{reads_more, reads_nowhere}
use Rattle.ptree.proofs.read.follow.OpenDrawing.read.Goals as goal

pub returns-in_default : goal.returns-in_default
returns-in_default c =
    let k = look_of c.args.frame.now.look in
    let nowhere : GoesOnNowhere k c.args.frame.now.depth c.loop-rest.rest.now c.loop-rest.self = rw c.in_default.is at c.in_ok-more.ensures in
    reads_nowhere k c.args.frame.now.depth c.args.lines.now c.loop-rest.rest.now c.args.self.now c.loop-rest.self c.requires.lines c.loop-rest.invariant.1
    (λ e. eqb-false (length c.loop-rest.rest.now) 0 (sym c.is_empty.ensures ∙ c.loop-rest-test.true) (ap length e)) nowhere

pub loop-rest-preserved : goal.loop-rest-preserved
loop-rest-preserved c =
    let k = look_of c.args.frame.now.look in
    let next : IsNext k c.args.frame.now.depth c.loop-rest.rest.now c.in-Some.more.now c.loop-rest.self c.go_on.new.self = rw c.in-Some.is at c.in_ok-more.ensures in
    (search rules, reads_more k c.args.frame.now.depth c.args.lines.now c.loop-rest.rest.now c.in-Some.more.now c.args.self.now c.loop-rest.self c.go_on.new.self c.loop-rest.invariant.1 next)

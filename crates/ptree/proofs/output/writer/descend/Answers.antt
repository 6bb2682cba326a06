use Rattle.ptree.specs.Looks.{look_of}
use Rattle.ptree.specs.Rungs.{no_rung}
use Rattle.ptree.proofs.Drawing.Standing.{front_passed}
use Rattle.ptree.proofs.output.writer.descend.Goals as goal

pub returns-in_ok-pass-in-Some-clause-front : goal.returns-in_ok-pass-in-Some-clause-front
returns-in_ok-pass-in-Some-clause-front c =
    front_passed (look_of c.args.brush.now.look) _ _ _ _ c.args.rungs.now c.in-Some.rung.now c.requires c.in-Some.ensures.item.3.0 (c.in-Some.ensures.item.3.1 no_rung) c.in_ok-pass-in-Some.ensures.line

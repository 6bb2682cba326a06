use Rattle.std.proofs.Common.{rules}
use Rattle.trees.specs.Asked.{reading_value}
use Rattle.trees.specs.Reading.{FailsToRead}
use Rattle.trees.proofs.perform.expect_drawing.Goals as goal

pub returns-in_err-count-clause-failed : goal.returns-in_err-count-clause-failed
returns-in_err-count-clause-failed c =
    let fails : FailsToRead (reading_value c.args.found.now.sources c.args.pieces) c.args.source.now c.in_err-count.field-0.0 = rw (← c.in_ok-config.ensures) c.in_err-count.ensures.failed in
    search (rules, fails)

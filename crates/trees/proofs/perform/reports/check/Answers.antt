use Rattle.std.proofs.Common.{◌≡◌, [], string_bytes, rules, subst, sym}
use Rattle.trees.specs.declared.failure.Failure.TheVariants.{Memory}
use Rattle.trees.specs.Named.{IsReadableValue}
use Rattle.trees.specs.Writing.{AreReports, FailsToCheck}
use Rattle.trees.proofs.Readings.{fails_by_memory}
use Rattle.trees.proofs.Writings.{fails_early, said_weaker}
use Rattle.trees.specs.Asked.{reading_value}
use Rattle.trees.specs.Reading.{IsReport, Adds}
use Rattle.trees.specs.Shown.{IsNone}
use Rattle.trees.proofs.Shown.{lines_part_shown, nothing_shown}
use Rattle.trees.proofs.Told.{tells_of_not}
use Rattle.trees.proofs.perform.reports.check.Goals as goal

pub returns-clause-told : goal.returns-clause-told
returns-clause-told g c =
    let are_drawings = c.in_ok-are_drawings.are_drawings in
    tells_of_not c.say.result are_drawings _ c.in_ok-are_drawings.ensures.all (search rules)

-- what is said is as the screen may get it
pub returns-clause-shown : goal.returns-clause-shown
returns-clause-shown g c =
    let said = c.in_ok-said.said in
    lines_part_shown c.args.screen.is_terminal _ (string_bytes said) (g.W.Sink.contents c.args.out.now) (g.W.Sink.contents c.say.new.out) c.in_ok-said.ensures (search rules)

pub returns-in_err-are_drawings-clause-shown : goal.returns-in_err-are_drawings-clause-shown
returns-in_err-are_drawings-clause-shown g c = nothing_shown c.args.screen.is_terminal IsNone (g.W.Sink.contents c.args.out.now)

pub returns-in_err-said-clause-shown : goal.returns-in_err-said-clause-shown
returns-in_err-said-clause-shown g c = nothing_shown c.args.screen.is_terminal IsNone (g.W.Sink.contents c.args.out.now)

-- what is written is what is said
pub returns-clause-written : goal.returns-clause-written
returns-clause-written g c =
    let sources = c.args.found.now.sources in
    let inputs = c.args.sources.now in
    let b = c.args.screen.is_terminal in
    let old = g.W.Sink.contents c.args.out.now in
    let new = g.W.Sink.contents c.say.new.out in
    let text = c.as_str.result.now in
    let empty : string_bytes c.new-said.result ≡ [] = search rules in
    let lines = subst (λ a. Adds (IsReport (reading_value sources c.args.pieces)) inputs a (string_bytes c.push_reports.new.said)) empty c.in_ok-are_drawings.ensures.reports in
    let reports : AreReports sources inputs c.args.pieces b text = (_, lines, search rules) in
    let are = AreReports sources inputs c.args.pieces b in
    said_weaker old new c.say.result (λ bytes. bytes ≡ text) are (λ e. e ≡ Memory) (FailsToCheck sources c.args.pieces) (λ bytes e. subst are (sym e) reports)
    (fails_by_memory ⊥ (IsReadableValue (reading_value sources c.args.pieces) → ⊥)) c.say.ensures.written

pub returns-in_err-are_drawings-clause-written : goal.returns-in_err-are_drawings-clause-written
returns-in_err-are_drawings-clause-written g c =
    let are = AreReports c.args.found.now.sources c.args.sources.now c.args.pieces c.args.screen.is_terminal in
    fails_early _ (g.W.Sink.contents c.args.out.now) c.from_residual.result are (FailsToCheck c.args.found.now.sources c.args.pieces) (λ e. e) (search rules) (search rules)

pub returns-in_err-said-clause-written : goal.returns-in_err-said-clause-written
returns-in_err-said-clause-written g c =
    let are = AreReports c.args.found.now.sources c.args.sources.now c.args.pieces c.args.screen.is_terminal in
    fails_early _ (g.W.Sink.contents c.args.out.now) c.from_residual-in_err-said.result are (FailsToCheck c.args.found.now.sources c.args.pieces) (λ e. e) (search rules) (search rules)

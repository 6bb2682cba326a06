use Rattle.std.proofs.Common.{◌≡◌, ◌∙◌, true, false, None, sym, string_bytes, rules}
use Rattle.ptree.specs.Loading.{first_fault}
use Rattle.trees.specs.Telling.{TellsWhether}
use Rattle.trees.specs.Shown.{IsNone, shown_lines}
use Rattle.trees.proofs.Shown.{lines_part_shown, nothing_shown}
use Rattle.trees.specs.declared.failure.Failure.TheVariants.{Memory}
use Rattle.trees.specs.Writing.{AreSettings}
use Rattle.trees.proofs.Writings.{fails_early, said_weaker}
use Rattle.trees.proofs.Told.{tells_same, none_or_some}
use Rattle.trees.proofs.perform.show_settings.Goals as goal

pub returns-clause-told : goal.returns-clause-told
returns-clause-told g c =
    let fault = first_fault c.args.found.now.sources in
    let both = none_or_some fault in
    let report = c.in_ok-report.report in
    let told : TellsWhether c.say.result (report.has_faults ≡ false) = search rules in
    tells_same c.say.result (report.has_faults ≡ false) (fault ≡ None) (λ none. both.0 (sym c.in_ok-report.ensures.faults ∙ none)) (λ none. c.in_ok-report.ensures.faults ∙ both.1 none) told

-- what is said is as a terminal may get it
pub returns-clause-shown : goal.returns-clause-shown
returns-clause-shown g c =
    let said : string_bytes c.in_ok-said.said ≡ shown_lines c.as_str.result.now = search rules in
    lines_part_shown true c.as_str.result.now (string_bytes c.in_ok-said.said) (g.W.Sink.contents c.args.out.now) (g.W.Sink.contents c.say.new.out) said (search rules)

pub returns-in_err-report-clause-shown : goal.returns-in_err-report-clause-shown
returns-in_err-report-clause-shown g c = nothing_shown true IsNone (g.W.Sink.contents c.args.out.now)

pub returns-in_err-said-clause-shown : goal.returns-in_err-said-clause-shown
returns-in_err-said-clause-shown g c = nothing_shown true IsNone (g.W.Sink.contents c.args.out.now)

-- what is written is what is said
pub returns-clause-written : goal.returns-clause-written
returns-clause-written g c =
    let sources = c.args.found.now.sources in
    let text = c.as_str-2.result.now in
    let shown : text ≡ shown_lines (string_bytes c.in_ok-report.report.text) = search rules in
    said_weaker (g.W.Sink.contents c.args.out.now) (g.W.Sink.contents c.say.new.out) c.say.result (λ bytes. bytes ≡ text) (AreSettings sources) (λ e. e ≡ Memory) (λ e. e ≡ Memory)
    (λ bytes is. (string_bytes c.in_ok-report.report.text, c.in_ok-report.ensures.settings, is ∙ shown)) (λ e memory. memory) c.say.ensures.written

pub returns-in_err-report-clause-written : goal.returns-in_err-report-clause-written
returns-in_err-report-clause-written g c =
    fails_early _ (g.W.Sink.contents c.args.out.now) c.from_residual.result (AreSettings c.args.found.now.sources) (λ e. e ≡ Memory) (λ e. (cc)) (search rules) (search rules)

pub returns-in_err-said-clause-written : goal.returns-in_err-said-clause-written
returns-in_err-said-clause-written g c =
    fails_early _ (g.W.Sink.contents c.args.out.now) c.from_residual-in_err-said.result (AreSettings c.args.found.now.sources) (λ e. e ≡ Memory) (λ e. (cc)) (search rules) (search rules)

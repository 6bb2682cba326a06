use Rattle.trees.proofs.Common.{◌↔◌, ◌∙◌, List, All, IsTrue, rules, string_bytes, take, take_all, subst, sym, ◌+◌, false≢true}
use Rattle.trees.specs.declared.source.Source.{Source}
use Rattle.ptree.specs.Config.{config_of}
use Rattle.trees.specs.Reading.{HoldsSome, IsReport, Adds}
use Rattle.trees.proofs.Reports.{adds_nothing, adds_next}
use Rattle.trees.proofs.Told.{still_all, not_all}
use Rattle.trees.proofs.perform.reports.push_checks.Goals.{then-not-branch, else-not-branch}
use Rattle.trees.proofs.perform.reports.push_checks.Goals as goal

pub loop-source-init : goal.loop-source-init
loop-source-init c = (search rules, adds_nothing (IsReport (config_of c.args.config.now)) (string_bytes c.args.said.now))

pub loop-source-preserved : goal.loop-source-preserved
loop-source-preserved c =
    let config = config_of c.args.config.now in
    let holds : Source → Type 0 = λ s. HoldsSome config s in
    let sources = c.args.sources.now in
    let i = c.loop-source.source-index in
    let source = c.source-item.result in
    let drawing = c.in_ok-push_check.ensures.drawing in
    let report = c.in_ok-push_check.ensures.report in
    let said : Adds (IsReport config) (take (i + 1) sources) (string_bytes c.args.said.now) (string_bytes c.push_check.new.said) =
    adds_next (IsReport config) sources i source (string_bytes c.args.said.now) (string_bytes c.loop-source.said) (string_bytes c.push_check.new.said) report.0 c.loop-source-test.true c.source-item.is c.loop-source.invariant.1 report.1 report.2 in
    elim c.if-not-branch.branch [
      | then-not-branch w ↦
          let no = not_all holds sources i source c.loop-source-test.true c.source-item.is (λ h. false≢true (sym w.if-not-branch.true ∙ drawing.1 h)) in
          (rw w.are_drawings-is (search (rules, no)), said)
      | else-not-branch w ↦
          let all = still_all holds sources i source c.loop-source.are_drawings c.loop-source-test.true c.source-item.is (drawing.0 w.if-not-branch.false) c.loop-source.invariant.0 in
          (rw w.are_drawings-is (search (rules, all)), said)
    ]

pub returns-clause-all : goal.returns-clause-all
returns-clause-all c =
    let holds : Source → Type 0 = λ s. HoldsSome (config_of c.args.config.now) s in
    subst (λ (xs : List Source). IsTrue c.loop-source.are_drawings ↔ All holds xs) (take_all c.loop-source.source-index c.args.sources.now c.loop-source-test.false) c.loop-source.invariant.0

pub returns-clause-reports : goal.returns-clause-reports
returns-clause-reports c =
    let config = config_of c.args.config.now in
    subst (λ (xs : List Source). Adds (IsReport config) xs (string_bytes c.args.said.now) (string_bytes c.loop-source.said))
    (take_all c.loop-source.source-index c.args.sources.now c.loop-source-test.false) c.loop-source.invariant.1

use Rattle.std.proofs.Common.{◌≡◌, subst, sym, rules, IsErr, IfErr}
use Rattle.trees.specs.declared.failure.Failure.TheVariants.{Memory}
use Rattle.trees.specs.Asked.{reading_value}
use Rattle.trees.specs.Named.{IsReadableValue}
use Rattle.trees.specs.Reading.{HoldsDrawing}
use Rattle.ptree.specs.Tree.{Tree}
use Rattle.trees.specs.Outlining.{LosesText}
use Rattle.trees.specs.Writing.{Writes, IsIndentation, FailsToIndent}
use Rattle.trees.proofs.Readings.{fails_by_memory}
use Rattle.trees.proofs.Shown.{indentation_shown, nothing_shown}
use Rattle.trees.proofs.Writings.{writes_weaker, nothing_written}
use Rattle.trees.proofs.perform.write_indented.Goals as goal

-- the text that is written is the one that was made
pub returns-clause-written : goal.returns-clause-written
returns-clause-written g c =
    let sources = c.args.found.now.sources in
    let source = c.args.source.now in
    let indented = c.args.indented in
    let config = reading_value sources indented.pieces in
    let old = g.W.Sink.contents c.args.out.now in
    let new = g.W.Sink.contents c.write_text.new.out in
    let text = c.as_str.result.now in
    let written : Writes old new c.write_text.result (λ bytes. bytes ≡ text) (λ e. e ≡ Memory) = search rules in
    let made : IsIndentation sources source indented text = subst (IsIndentation sources source indented) (sym c.as_str.ensures.value) c.in_ok-text.ensures.text in
    writes_weaker old new c.write_text.result (λ bytes. bytes ≡ text) (IsIndentation sources source indented) (λ e. e ≡ Memory) (FailsToIndent sources source indented)
    (λ bytes is. subst (IsIndentation sources source indented) (sym is) made) (λ e is. fails_by_memory ((t : Tree) → HoldsDrawing config source t → LosesText indented t) (IsReadableValue config → ⊥) e is) written

pub returns-in_err-text-clause-written : goal.returns-in_err-text-clause-written
returns-in_err-text-clause-written g c =
    let sources = c.args.found.now.sources in
    let source = c.args.source.now in
    let indented = c.args.indented in
    let fails : FailsToIndent sources source indented c.in_err-text.field-0.0 = c.in_err-text.ensures.failed in
    let says : IfErr c.from_residual.result (FailsToIndent sources source indented) = search (rules, fails) in
    let err : IsErr c.from_residual.result = search rules in
    nothing_written (g.W.Sink.contents c.args.out.now) c.from_residual.result (IsIndentation sources source indented) (FailsToIndent sources source indented) err says

pub returns-clause-shown : goal.returns-clause-shown
returns-clause-shown g c =
    let sources = c.args.found.now.sources in
    let source = c.args.source.now in
    let indented = c.args.indented in
    indentation_shown sources source indented (FailsToIndent sources source indented) (g.W.Sink.contents c.args.out.now) (g.W.Sink.contents c.write_text.new.out) c.write_text.result (returns-clause-written g c)

pub returns-in_err-text-clause-shown : goal.returns-in_err-text-clause-shown
returns-in_err-text-clause-shown g c = nothing_shown c.args.indented.is_terminal (λ part. part ≡ c.args.indented.unit.now) (g.W.Sink.contents c.args.out.now)

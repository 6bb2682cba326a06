use Rattle.trees.proofs.Common.{◌∙◌, ap, sym, rules, YieldsList-end, YieldsList-turn, YieldsList-from_lines, list_any}
use Rattle.trees.specs.Depending.{source_text, is_other_line}
use Rattle.trees.proofs.OtherFiles.{none_more, other_lined, other_named, own_file}
use Rattle.trees.proofs.deps.forms.form_not_read.Goals as goal

pub returns-in-Some : goal.returns-in-Some
returns-in-Some c =
    search (rules, other_named c.args.source.now c.label.result.now c.label.ensures (sym c.in-Some.ensures))

pub loop-line-preserved : goal.loop-line-preserved
loop-line-preserved c = none_more c.loop-line.yielded c.in-Some-line.line c.loop-line.invariant (sym c.in_default-line_not_read.ensures)

pub returns-in-Some-line_not_read : goal.returns-in-Some-line_not_read
returns-in-Some-line_not_read c =
    let text = source_text c.args.source.now in
    let e = ap (λ s. s.rest.now) c.into_iter-line-iterator.ensures.into_iter_gives ∙ (c.lines-line-items.ensures.rest ∙ c.unmarked.ensures) in
    let turn = YieldsList-turn (YieldsList-from_lines text e) c.loop-line.yielded _ c.loop-line.yielded_by _ _ c.in-Some-line.line c.in-Some-line.is c.next.ensures.steps in
    search (rules, other_lined c.args.source.now _ c.in-Some-line.line.now turn.0 turn.1 (sym c.in-Some-line_not_read.ensures))

pub returns : goal.returns
returns c =
    let text = source_text c.args.source.now in
    let e = ap (λ s. s.rest.now) c.into_iter-line-iterator.ensures.into_iter_gives ∙ (c.lines-line-items.ensures.rest ∙ c.unmarked.ensures) in
    let end = YieldsList-end (YieldsList-from_lines text e) c.loop-line.yielded _ c.loop-line.yielded_by _ _ c.in-None.is c.next.ensures.steps in
    own_file c.args.source.now c.label.result.now c.label.ensures (sym c.in_default.ensures) (ap (list_any is_other_line) (sym end.0) ∙ c.loop-line.invariant)

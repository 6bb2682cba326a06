use Rattle.trees.proofs.Common.{inl, inr, refl, rules, string_bytes, subst, sym, config_of, written_look}
use Rattle.ptree.specs.Continuation.{EndsWrong}
use Rattle.ptree.proofs.Reading.Scanning.{wrong_line_no_drawing}
use Rattle.trees.specs.Expected.{TellsLine, TellsEnd}
use Rattle.trees.specs.Named.{IsUnreadBy}
use Rattle.trees.specs.Reading.{SaysAt}
use Rattle.trees.proofs.Readings.{fails_by_text, names_read}
use Rattle.trees.proofs.drawings.why_none.Goals as goal

pub returns-in_ok-wrong_at-in-Line-clause-failed : goal.returns-in_ok-wrong_at-in-Line-clause-failed
returns-in_ok-wrong_at-in-Line-clause-failed c =
    let config = c.args.config.now in
    let text = string_bytes c.args.source.now.text in
    let failure = c.in_ok-wrong_at-in-Line in
    fails_by_text config c.args.source.now text failure.field-0 refl failure.ensures.input (wrong_line_no_drawing (written_look config) config.depth text c.in-Line.line (rw c.in-Line.is at c.requires.error))

pub returns-in_ok-wrong-in-End-2-clause-failed : goal.returns-in_ok-wrong-in-End-2-clause-failed
returns-in_ok-wrong-in-End-2-clause-failed c =
    let failure = c.in_ok-wrong-in-End-2 in
    fails_by_text c.args.config.now c.args.source.now (string_bytes c.args.source.now.text) failure.field-0 refl failure.ensures.input (let ends : EndsWrong (written_look c.args.config.now) c.args.config.now.depth (string_bytes c.args.source.now.text) = rw c.in-End.is at c.requires.error in ends.wrong)

pub returns-in_ok-wrong_at-in-Line-clause-place : goal.returns-in_ok-wrong_at-in-Line-clause-place
returns-in_ok-wrong_at-in-Line-clause-place c = λ input.
    let config = config_of c.args.config.now in
    let text = string_bytes c.args.source.now.text in
    let line = c.in-Line.line in
    let tells : TellsLine config text line c.as_str.result.now =
    subst (TellsLine config text line) (sym c.as_str.ensures.value) (subst (λ z. TellsLine config z line (string_bytes c.in_ok-wrong-in-Line.wrong)) c.as_str-text.ensures.value c.in_ok-wrong-in-Line.ensures) in
    let says : SaysAt c.args.source.now line c.as_str.result.now c.in_ok-wrong_at-in-Line.field-0 = search rules in
    names_read c.args.source.now _ _ c.requires.read (c.as_str.result.now, inl (line, (rw c.in-Line.is at c.requires.error), tells, says))

pub returns-in_ok-wrong-in-End-2-clause-place : goal.returns-in_ok-wrong-in-End-2-clause-place
returns-in_ok-wrong-in-End-2-clause-place c = λ input.
    let config = config_of c.args.config.now in
    let text = string_bytes c.args.source.now.text in
    let tells : TellsEnd config text c.as_str-in-End.result.now =
    subst (TellsEnd config text) (sym c.as_str-in-End.ensures.value) (subst (λ z. TellsEnd config z (string_bytes c.in_ok-wrong-in-End.wrong)) c.as_str-text.ensures.value c.in_ok-wrong-in-End.ensures) in
    names_read c.args.source.now _ _ c.requires.read (_, inr ((rw c.in-End.is at c.requires.error), tells, c.in_ok-wrong-in-End-2.ensures.says))

pub wrong_line-requires-clause-unread : goal.wrong_line-requires-clause-unread
wrong_line-requires-clause-unread c =
    let config = c.args.config.now in
    subst (IsUnreadBy (config_of config)) (sym c.as_str-text.ensures.value)
    (λ is. wrong_line_no_drawing (written_look config) config.depth (string_bytes c.args.source.now.text) c.in-Line.line (rw c.in-Line.is at c.requires.error) is.form.0 is.form.1)

pub wrong_end-requires : goal.wrong_end-requires
wrong_end-requires c =
    let config = c.args.config.now in
    let ends : EndsWrong (written_look config) config.depth (string_bytes c.args.source.now.text) = rw c.in-End.is at c.requires.error in
    subst (IsUnreadBy (config_of config)) (sym c.as_str-text.ensures.value) (λ is. ends.wrong is.form.0 is.form.1)

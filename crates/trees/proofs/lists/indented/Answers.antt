use Rattle.trees.proofs.Common.{◌≡◌, [], ap, Err, string_bytes, rules, tree_of, Form}
use Rattle.trees.specs.Outlining.{text_or, LosesText}
use Rattle.trees.proofs.EscapedLines.{shown_texts}
use Rattle.trees.proofs.OutlineTexts.{text_or_is}
use Rattle.trees.proofs.OutlinesBack.{loses_text, outline_back}
use Rattle.trees.proofs.Readings.{fails_by_input}
use Rattle.trees.proofs.lists.indented.Goals as goal

pub returns-in-Ok-clause-back : goal.returns-in-Ok-clause-back
returns-in-Ok-clause-back c = λ low.
    let t = tree_of c.args.tree.now in
    let text = string_bytes c.in-Ok.text in
    outline_back c.args.indented t text low (search rules) (search rules)

pub returns-in_ok-wrong-in-Err-Text-clause-failed : goal.returns-in_ok-wrong-in-Err-Text-clause-failed
returns-in_ok-wrong-in-Err-Text-clause-failed c =
    let indented = c.args.indented in
    let t = tree_of c.args.tree.now in
    let form : Form = record { unit = indented.unit; bullet = c.unwrap_or.result } in
    let same : c.unwrap_or.result.now ≡ text_or indented.bullet [] = search (rules, text_or_is indented.bullet) in
    fails_by_input (LosesText indented t) ⊥ c.in_ok-wrong-in-Err-Text.field-0 c.in_ok-wrong-in-Err-Text.ensures.input (loses_text indented t form same (λ fits. c.in-Err-Text.ensures.text (ap Err c.in-Err-Text.field-0-is) (shown_texts indented.is_terminal form c.args.tree.now c.unwrap_or.utf8 fits)))

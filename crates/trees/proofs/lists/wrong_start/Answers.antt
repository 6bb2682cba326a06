use Rattle.std.proofs.Common.{◌∙◌, sym}
use Rattle.trees.proofs.OutlineLines.{marked_text, marked_bullet, unmarked_text, unmarked_bullet}
use Rattle.trees.proofs.OutlinesBack.{some_length, no_length}
use Rattle.trees.proofs.lists.wrong_start.Goals.{else-is_empty-via-then-is_empty+else-starts_with, else-is_empty-via-else-is_empty}
use Rattle.trees.proofs.lists.wrong_start.Goals as goal

pub returns-then-starts_with : goal.returns-then-starts_with
returns-then-starts_with c =
    let at = c.if-starts_with.ensures.cases in
    sym (marked_text c.args.bullet.now c.args.text.now at.0 (no_length c.args.bullet.now (sym c.is_empty.ensures ∙ c.if-is_empty.true)) at.1)

pub returns-then-starts_with-2 : goal.returns-then-starts_with-2
returns-then-starts_with-2 c =
    let at = c.if-starts_with-2.ensures.cases in
    sym (marked_bullet c.args.bullet.now c.args.text.now at.0 at.1)

pub returns-else-starts_with-2 : goal.returns-else-starts_with-2
returns-else-starts_with-2 c =
    let bullet = c.args.bullet.now in
    let text = c.args.text.now in
    elim c.else-is_empty.branch [
      | else-is_empty-via-then-is_empty+else-starts_with w ↦ sym (unmarked_text bullet text (no_length bullet (sym c.is_empty.ensures ∙ w.if-is_empty.true)) w.if-starts_with.ensures.cases)
      | else-is_empty-via-else-is_empty w ↦ sym (unmarked_bullet bullet text c.utf8.bullet c.utf8.text (some_length bullet (sym c.is_empty.ensures ∙ w.if-is_empty.false)) c.if-starts_with-2.ensures.cases)
    ]

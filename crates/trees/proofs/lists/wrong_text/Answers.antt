use Rattle.trees.proofs.Common.{◌∙◌, sym, false≢true, not-false}
use Rattle.trees.proofs.OutlinesBack.{kept_text, some_length}
use Rattle.trees.proofs.lists.wrong_text.Goals.{else-is_empty-via-then-is_empty+else-not-is_line_text, then-is_empty-2, else-is_empty-2, else-is_empty-via-else-is_empty}
use Rattle.trees.proofs.lists.wrong_text.Goals as goal

-- what is not empty and a line stands without a bullet, and else there is one
pub returns-else-is_empty : goal.returns-else-is_empty
returns-else-is_empty c = kept_text c.args.bullet.now c.args.text.now c.if-contains.ensures.cases c.if-ends_with.ensures.cases (elim c.else-is_empty.branch [
  | else-is_empty-via-then-is_empty+else-not-is_line_text w ↦ λ none. elim w.if-is_empty-2.branch [
    | then-is_empty-2 e ↦ absurd (false≢true (sym w.if-not-is_line_text.false ∙ (e.value-is ∙ e.if-is_empty-2.true)))
    | else-is_empty-2 e ↦ (some_length c.args.text.now (sym w.is_empty-then-is_empty.ensures ∙ e.if-is_empty-2.false), (e.is_line_text.ensures.0 (not-false e.is_line_text.result (sym e.value-is ∙ w.if-not-is_line_text.false))).1)
  ]
  | else-is_empty-via-else-is_empty w ↦ λ none. absurd (some_length c.args.bullet.now (sym c.is_empty.ensures ∙ w.if-is_empty.false) none)
])

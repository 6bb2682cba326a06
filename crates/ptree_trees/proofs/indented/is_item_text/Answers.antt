use Rattle.std.proofs.Common.{◌∙◌, sym}
use Rattle.std.proofs.lemmas.Bool.{false≢true}
use Rattle.ptree_trees.proofs.IndentedTexts.{no_line, no_feed_end}
use Rattle.ptree_trees.proofs.IndentedWriting.{bullet_fits}
use Rattle.ptree_trees.proofs.indented.is_item_text.Goals as goal

pub returns-then-not-is_line_text : goal.returns-then-not-is_line_text
returns-then-not-is_line_text c = (
  λ e. absurd (false≢true e),
  λ h. absurd (false≢true (sym c.if-not-is_line_text.true ∙ c.is_line_text-2.ensures.1 (bullet_fits c.args.bullet.now c.args.text.now h))),
)

pub returns-in-Some : goal.returns-in-Some
returns-in-Some c = (
  λ e. absurd (false≢true e),
  λ h. absurd (no_line c.args.text.now c.in-Some.field-0.0.now c.in-Some.field-0.1.now (no_feed_end c.args.bullet.now c.args.text.now h.0) c.in-Some.ensures.1),
)

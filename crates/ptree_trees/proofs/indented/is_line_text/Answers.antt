use Rattle.ptree_trees.proofs.IndentedWriting.{not_line}
use Rattle.std.proofs.lemmas.Bool.{false≢true}
use Rattle.ptree_trees.proofs.indented.is_line_text.Goals as goal

pub returns-in-Some : goal.returns-in-Some
returns-in-Some c = (
  λ e. absurd (false≢true e),
  λ h. absurd (not_line c.args.text.now c.in-Some.field-0.0.now c.in-Some.field-0.1.now c.in-Some.ensures.1 h),
)

use Rattle.std.proofs.Common.{sym, ◌∙◌}
use Rattle.trees.proofs.OutlineTexts.{unit_blank}
use Rattle.trees.proofs.lists.outlines.is_blank.Goals as goal

pub returns-else-is_empty : goal.returns-else-is_empty
returns-else-is_empty c = unit_blank c.args.line.now c.is_unit.result (sym c.is_empty.ensures ∙ c.if-is_empty.false) c.is_unit.ensures

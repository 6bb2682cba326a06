use Rattle.std.proofs.Common.{◌∙◌}
use Rattle.trees.proofs.drawings.read.Goals as goal

pub returns-in-Ok-clause-redrawn : goal.returns-in-Ok-clause-redrawn
returns-in-Ok-clause-redrawn c = λ drawing is. c.in-Ok.ensures.redrawn drawing is ∙ c.as_str.ensures.value

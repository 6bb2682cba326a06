use Rattle.std.proofs.Common.{refl}
use Rattle.ptree.proofs.print_config.fields.Field.variable.Goals as goal

pub returns-in-DownAndRight : goal.returns-in-DownAndRight
returns-in-DownAndRight c = rw c.in-DownAndRight.is refl

pub returns-in-TurnRight : goal.returns-in-TurnRight
returns-in-TurnRight c = rw c.in-TurnRight.is refl

use Rattle.std.proofs.Common.{rules}
use Rattle.ptree_c.specs.Fields.{config_value}
use Rattle.ptree_c.proofs.fields.config_of_fields.Goals as goal

pub returns : goal.returns
unfolding config_value
returns c = search rules

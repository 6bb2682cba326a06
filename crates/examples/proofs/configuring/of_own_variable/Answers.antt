use Rattle.std.proofs.Common.{◌∙◌, ap}
use Rattle.ptree_sources.specs.Settings.{field_of_variable}
use Rattle.examples.proofs.OwnNames.{own_variable}
use Rattle.examples.proofs.configuring.of_own_variable.Goals as goal

pub returns : goal.returns
returns c = c.field_of_variable.ensures ∙ ap field_of_variable c.variable.ensures ∙ own_variable c.args.field

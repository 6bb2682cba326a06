use Rattle.ptree.proofs.Config.FieldLists.{each_style_field}
use Rattle.ptree.proofs.print_config.given.Given.is_dimmed.Goals as goal

pub returns-then-is_none-clause-each : goal.returns-then-is_none-clause-each
returns-then-is_none-clause-each c = each_style_field

pub returns-else-is_none-clause-each : goal.returns-else-is_none-clause-each
returns-else-is_none-clause-each c = each_style_field

pub returns-in-Leaf-clause-each : goal.returns-in-Leaf-clause-each
returns-in-Leaf-clause-each c = each_style_field

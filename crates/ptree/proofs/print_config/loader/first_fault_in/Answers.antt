use Rattle.ptree.proofs.Config.FieldLists.{each_field}
use Rattle.ptree.proofs.print_config.loader.first_fault_in.Goals as goal

pub returns-in-Some-clause-each : goal.returns-in-Some-clause-each
returns-in-Some-clause-each c = each_field

pub returns-in-Some-table_fault-clause-each : goal.returns-in-Some-table_fault-clause-each
returns-in-Some-table_fault-clause-each c = each_field

pub returns-in-Some-table_fault-2-clause-each : goal.returns-in-Some-table_fault-2-clause-each
returns-in-Some-table_fault-2-clause-each c = each_field

pub returns-clause-each : goal.returns-clause-each
returns-clause-each c = each_field

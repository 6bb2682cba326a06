use Rattle.std.proofs.Common.{◌≡◌, ◌++◌, take}
use Rattle.std.specs.Prelude.{flat_map}
use Rattle.ptree.specs.AllFaults.{field_faults}
use Rattle.ptree.specs.Lent.{given_of}
use Rattle.ptree.proofs.print_config.given.Given.push_field_faults.Given as goal

abbrev pub invariant-loop-field : goal.invariant-loop-field
invariant-loop-field l = l.found.items ≡ l.initial.found.items ++ flat_map (field_faults (given_of l.self)) (take l.field-index l.fields)

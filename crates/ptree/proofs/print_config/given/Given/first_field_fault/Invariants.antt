use Rattle.std.proofs.Common.{◌≡◌, drop, map}
use Rattle.ptree.specs.Lent.{given_of}
use Rattle.ptree.specs.Loading.{field_fault, first_of}
use Rattle.ptree.proofs.print_config.given.Given.first_field_fault.Given as goal

abbrev pub invariant-loop-field : goal.invariant-loop-field
invariant-loop-field l = first_of (map (field_fault (given_of l.self)) l.fields) ≡ first_of (map (field_fault (given_of l.self)) (drop l.field-index l.fields))

use Rattle.std.proofs.Common.{◌≡◌, drop, Bool}
use Rattle.std.specs.Prelude.{is_some}
use Rattle.std.specs.List.{list_any}
use Rattle.ptree.specs.Lent.{given_of}
use Rattle.ptree.specs.Sources.{variable}
use Rattle.ptree.specs.declared.print_config.fields.StyleField.{StyleField}
use Rattle.ptree.specs.declared.print_config.fields.Field.TheVariants.{Paint}
use Rattle.ptree.proofs.print_config.given.Given.has_variable.Given as goal

abbrev pub invariant-loop-field : goal.invariant-loop-field
invariant-loop-field l =
    let named : StyleField → Bool = λ f. is_some (variable (given_of l.self) (Paint l.part f)) in
    list_any named l.fields ≡ list_any named (drop l.field-index l.fields)

-- Each field is found by its own names.
use Rattle.std.proofs.Common.{◌≡◌, Some, refl}
use Rattle.ptree.specs.Fields.{table_key, field_key, variable_name}
use Rattle.ptree.specs.declared.print_config.fields.Field.{Field}
use Rattle.ptree.specs.declared.print_config.fields.Field.TheVariants.{Paint}
use Rattle.ptree.specs.declared.print_config.fields.Part.TheVariants.{Branch, Leaf}
use Rattle.ptree.specs.declared.print_config.fields.StyleField.TheVariants.{Foreground}
use Rattle.ptree_sources.specs.Settings.{field_at, field_of_variable, has_variable}

-- each field is at its own key
pub own_key : (field : Field) → field_at (table_key field) (field_key field) ≡ Some field
unfolding field_at
own_key (Paint Branch Foreground) = refl
own_key (Paint Leaf Foreground) = refl
own_key _ = refl

-- each field is that of its own variable
pub own_variable : (field : Field) → field_of_variable (variable_name field) ≡ Some field
unfolding field_of_variable has_variable
own_variable (Paint Branch Foreground) = refl
own_variable (Paint Leaf Foreground) = refl
own_variable _ = refl

-- All faults in the sources of a configuration.
use Rattle.std.specs.Prelude.{List, [], ◌∷◌, ◌++◌, flat_map, Option, Some, None}
use Rattle.ptree.specs.declared.print_config.Sources.{Sources}
use Rattle.ptree.specs.declared.print_config.fields.Field.{Field}
use Rattle.ptree.specs.declared.print_config.fields.Part.TheVariants.{Branch, Leaf}
use Rattle.ptree.specs.declared.print_config.loader.Fault.{Fault}
use Rattle.ptree.specs.Fields.{all_fields}
use Rattle.ptree.specs.Loading.{variable_fault, key_fault, table_fault, file_fault}
use Rattle.ptree.specs.Sources.{Given, given_by}

-- a list of the value, if there is one
abbrev pub listed : {A : Type 0} → Option A → List A
listed None = []
listed (Some value) = value ∷ []

-- the faults of a field: that of its variable, and that of its key
abbrev pub field_faults : Given → Field → List Fault
field_faults given field = listed (variable_fault given field) ++ listed (key_fault given field)

-- all faults: of the file as a whole, of its tables, then of the fields in their order
unfoldable pub faults_in : Option Fault → Given → List Fault
faults_in file given =
    ((listed file ++ listed (table_fault given Branch)) ++ listed (table_fault given Leaf)) ++ flat_map (field_faults given) all_fields

-- all faults in the sources
abbrev pub all_faults : Sources → List Fault
all_faults sources = faults_in (file_fault sources.file) (given_by sources)

-- Sources of configurations as C gives them.
use Rattle.std.specs.Prelude.{◌≡◌, ℕ, if◌then◌else◌, nat_lt, List, [], map, Some, string_bytes}
use Rattle.ptree.specs.Loading.{loaded_config}
use Rattle.ptree.specs.Sources.{Variables, variables_of}
use Rattle.ptree.specs.declared.print_config.FileSource.{FileSource}
use Rattle.ptree.specs.declared.print_config.FileSource.TheVariants.{Absent, Unreadable, Toml, Json}
use Rattle.ptree.specs.declared.print_config.Sources.{Sources}
use Rattle.ptree_c.specs.Fields.{part_text, config_value}
use Rattle.ptree_c.specs.declared.fields.ConfigFields.{ConfigFields}
use Rattle.ptree_c.specs.declared.load.Variable.{Variable}

-- the number of a file's format, and its text
abbrev pub file_parts : FileSource → ℕ × List ℕ
file_parts (Json text) = (0, string_bytes text)
file_parts (Toml text) = (1, string_bytes text)
file_parts Absent = (2, [])
file_parts Unreadable = (3, [])

-- the number of a format and a text, which is read of a document alone
abbrev pub file_given : ℕ → List ℕ → ℕ × List ℕ
file_given n text = (n, (if nat_lt n 2 then text else []))

-- the names and values of variables
abbrev pub variable_texts : List ℕ → List Variable → Variables
variable_texts texts variables = map (λ v. (part_text texts v.name, part_text texts v.value)) variables

-- the file has this format and text, and the variables these names and values
abbrev pub AreSources : List ℕ → ℕ → List Variable → List ℕ → Sources → Type 0
AreSources text format variables texts sources =
    (file_parts sources.file ≡ file_given format text) × (variables_of sources.variables.items ≡ variable_texts texts variables)

-- there is no fault in the sources, and the fields mean their configuration
abbrev pub AreLoaded : Sources → List ℕ → ConfigFields → Type 0
AreLoaded sources names fields = loaded_config sources ≡ Some (config_value names fields)

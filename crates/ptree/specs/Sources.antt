-- The sources of a configuration: variables, and the document of a file.
use Rattle.std.specs.Prelude.{ℕ, List, map, reverse, find, if◌then◌else◌, Option, Some, None, option_map, option_and_then, string_bytes, String}
use Rattle.std.specs.declared.alloc.Global.{Global}
use Rattle.serde_json.specs.Read.{read}
use Rattle.toml.specs.Data as t
use Rattle.toml.specs.Parse.{parse_document}
use Rattle.ptree.specs.declared.print_config.FileSource.{FileSource}
use Rattle.ptree.specs.declared.print_config.FileSource.TheVariants.{Absent, Unreadable, Toml, Json}
use Rattle.ptree.specs.declared.print_config.Sources.{Sources}
use Rattle.ptree.specs.declared.print_config.fields.Field.{Field}
use Rattle.ptree.specs.declared.print_config.parse.Spelling.{Spelling}
use Rattle.ptree.specs.declared.print_config.parse.Spelling.TheVariants.{AnyCase}
use Rattle.ptree.specs.Characters.{is_spelled}
use Rattle.ptree.specs.Fields.{variable_name, field_key, table_key}
use Rattle.ptree.specs.File.{FileNode, json, toml, get, is_table}

-- names and values, in order
abbrev pub Variables : Type 0
Variables = List (List ℕ × List ℕ)

-- the names and values that variables hold
abbrev pub variables_of : List (String Global × String Global) → Variables
variables_of variables = map (λ v. (string_bytes v.0, string_bytes v.1)) variables

-- the last value of the variables with this name
unfoldable pub last_value : Spelling → List ℕ → Variables → Option (List ℕ)
last_value spelling name variables = option_map (λ v. v.1) (find (λ v. is_spelled spelling v.0 name) (reverse variables))

-- a document, if its top is a table
abbrev pub table_or_none : FileNode → Option FileNode
table_or_none node = if is_table node then Some node else None

-- the document of a text in TOML, if it is one
abbrev pub toml_document : List ℕ → Option FileNode
toml_document text = option_map (λ members. toml (t.table members)) (parse_document text)

-- the document of a text in JSON, if it is one
abbrev pub json_document : List ℕ → Option FileNode
json_document text = option_and_then (λ d. table_or_none (json d)) (read text)

-- the document of a file, if it has one
abbrev pub file_document : FileSource → Option FileNode
file_document Absent = None
file_document Unreadable = None
file_document (Toml text) = toml_document (string_bytes text)
file_document (Json text) = json_document (string_bytes text)

-- what is looked into: the variables, and the document of the file
pub record Given : Type 0 where
  pub variables : Variables
  pub document : Option FileNode

-- the parts of sources that are looked into
abbrev pub given_by : Sources → Given
given_by sources = record { variables = variables_of sources.variables.items; document = file_document sources.file }

-- the text of a field's variable
unfoldable pub variable : Given → Field → Option (List ℕ)
variable given field = last_value AnyCase (variable_name field) given.variables

-- the top of the document, or its table with this key
unfoldable pub table_at : Given → Option (List ℕ) → Option FileNode
table_at given None = given.document
table_at given (Some key) = option_and_then (get key) given.document

-- the value at a field's key
unfoldable pub node : Given → Field → Option FileNode
node given field = option_and_then (get (field_key field)) (table_at given (table_key field))

-- What the sources of a configuration say, for people: fields by their names, the keys of a file,
-- and what a value that is wrong is.
use Rattle.std.specs.Prelude.{◌≡◌, ⊤, ℕ, option_and_then, ◌||◌, ◌&&◌, Bool, true, false, if◌then◌else◌, List, [], ◌∷◌, ◌++◌, map, flat_map, Option, Some, None, option_map, unwrap_or, is_some, find, codes, string_bytes, String}
use Rattle.std.specs.Option.{option_map_or}
use Rattle.std.specs.Str.{bytes_eq, str_eq_ignore_ascii_case}
use Rattle.std.specs.declared.alloc.Global.{Global}
use Rattle.serde_json.specs.Data as j
use Rattle.toml.specs.Data as t
use Rattle.ptree.specs.Fields.{part_key, field_key, table_key, variable_name, all_fields}
use Rattle.ptree.specs.File.{FileNode, json, toml, get, as_text}
use Rattle.ptree.specs.Sources.{given_by, variable, table_at, node}
use Rattle.ptree.specs.declared.print_config.Sources.{Sources}
use Rattle.ptree.specs.declared.print_config.fields.Field.{Field}
use Rattle.ptree.specs.declared.print_config.fields.Field.TheVariants.{Depth, Indent, Padding, Styled, Characters, Paint}
use Rattle.ptree.specs.declared.print_config.fields.Part.TheVariants.{Branch, Leaf}
use Rattle.ptree.specs.declared.print_config.fields.StyleField.{StyleField}
use Rattle.ptree.specs.declared.print_config.fields.StyleField.TheVariants.{Foreground, Background}
use Rattle.ptree.specs.declared.print_config.loader.Fault.{Fault}
use Rattle.ptree.specs.declared.print_config.loader.Fault.TheVariants as fault
use Rattle.ptree_sources.specs.declared.settings.keys.Entry.{Entry}
use Rattle.ptree_sources.specs.WrittenValue.{IsWrittenValue}

-- a field is at this key of this table, or at the top
pub record IsAt (table : Option (List ℕ)) (key : List ℕ) (field : Field) : Type 0 where
  pub own : field_key field ≡ key
  pub of_table : table_key field ≡ table

-- whether two keys of tables are the same, or both are none
abbrev pub is_same_table : Option (List ℕ) → Option (List ℕ) → Bool
is_same_table (Some a) (Some b) = bytes_eq a b
is_same_table None None = true
is_same_table _ _ = false

-- whether a field is at this key of this table, or at the top
abbrev pub is_at : Option (List ℕ) → List ℕ → Field → Bool
is_at table key field = bytes_eq (field_key field) key && is_same_table (table_key field) table

-- the field at this key of this table, or at the top
unfoldable pub field_at : Option (List ℕ) → List ℕ → Option Field
field_at table key = find (is_at table key) all_fields

-- whether this is the name of a field's variable, in any ASCII case
unfoldable pub has_variable : List ℕ → Field → Bool
has_variable name field = str_eq_ignore_ascii_case (variable_name field) name

-- the field whose variable has this name
unfoldable pub field_of_variable : List ℕ → Option Field
field_of_variable name = find (has_variable name) all_fields

-- whether a key is that of a field, or at the top that of the table of a style
unfoldable pub is_known : Option (List ℕ) → List ℕ → Bool
is_known (Some table) key = is_some (field_at (Some table) key)
is_known None key = (bytes_eq key (part_key Branch) || bytes_eq key (part_key Leaf)) || is_some (field_at None key)

-- whether a field of a style is a colour
abbrev pub is_side : StyleField → Bool
is_side Foreground = true
is_side Background = true
is_side _ = false

-- whether a field is a colour
abbrev pub is_color : Field → Bool
is_color (Paint part field) = is_side field
is_color _ = false

-- what a field of a style accepts, in words
abbrev pub allowed_in_style : StyleField → List ℕ
allowed_in_style field =
    if is_side field
    then codes "a colour's name, #rrggbb, or a number up to 255; in a file also three such numbers"
    else codes "true or false; in a variable also 1, on, yes, 0, off or no"

-- what a field accepts, in words
abbrev pub allowed_text : Field → List ℕ
allowed_text Depth = codes "a whole number up to 4294967295"
allowed_text Indent = codes "a whole number up to 18446744073709551615"
allowed_text Padding = codes "a whole number up to 18446744073709551615"
allowed_text Styled = codes "never, always or tty"
allowed_text Characters = codes "utf, utf-bold, utf-dashed, utf-double, ascii, ascii-tick, ascii-plus; in a file also a table"
allowed_text (Paint part field) = allowed_in_style field
allowed_text _ = codes "a text"

-- a key of a file: that of the table that holds it, if fields stand in it, its own, and its value
pub record KeyValue : Type 0 where
  pub table : Option (List ℕ)
  pub key : List ℕ
  pub value : FileNode

-- a key with its value, in the table of this key or at the top
abbrev pub key_in : Option (List ℕ) → List ℕ × FileNode → KeyValue
key_in table k = record { table = table; key = k.0; value = k.1 }

-- whether fields stand in a table of this key
abbrev pub has_fields : List ℕ → Bool
has_fields key = (bytes_eq key (codes "characters") || bytes_eq key (part_key Branch)) || bytes_eq key (part_key Leaf)

-- the keys of an object of JSON with their values, in order
abbrev pub json_keys : j.Members → List (List ℕ × FileNode)
json_keys j.no_members = []
json_keys (j.member k d ms) = (k, json d) ∷ json_keys ms

-- the keys of a table of TOML with their values, in order
abbrev pub toml_keys : t.Members → List (List ℕ × FileNode)
toml_keys t.no_members = []
toml_keys (t.member k d ms) = (k, toml d) ∷ toml_keys ms

-- the keys of a value with their values, if it is an object or a table
abbrev pub keys_of : FileNode → Option (List (List ℕ × FileNode))
keys_of (json (j.object ms)) = Some (json_keys ms)
keys_of (toml (t.table ms)) = Some (toml_keys ms)
keys_of _ = None

-- a key at the top, or in its place those in its table
abbrev pub keys_at : List ℕ × FileNode → List KeyValue
keys_at k =
    option_map_or (λ keys. if has_fields k.0 then map (key_in (Some k.0)) keys else key_in None k ∷ []) (keys_of k.1) (key_in None k ∷ [])

-- the keys of a file's document, those of the three tables with fields in the place of their tables
abbrev pub file_keys : Option FileNode → List KeyValue
file_keys document = flat_map keys_at (unwrap_or (option_and_then keys_of document) [])

-- an entry says what a key is: its table, itself, its value as it is written, and its text
pub record IsEntry (k : KeyValue) (entry : Entry) : Type 0 where
  pub table : option_map string_bytes entry.table ≡ k.table
  pub key : string_bytes entry.key ≡ k.key
  pub value : IsWrittenValue k.value (string_bytes entry.value)
  pub text : option_map string_bytes entry.text ≡ as_text k.value

-- a text is how a value is written, and there is none if there is no value
abbrev pub IsShown : Option FileNode → Option (String Global) → Type 0
IsShown None None = ⊤
IsShown (Some value) (Some text) = IsWrittenValue value (string_bytes text)
IsShown _ _ = ⊥

-- a text is the value that a fault is about, if the fault is one of a value
abbrev pub IsWrongValue : Sources → Fault → Option (String Global) → Type 0
IsWrongValue sources (fault.Variable field) shown = option_map string_bytes shown ≡ variable (given_by sources) field
IsWrongValue sources (fault.Key field) shown = IsShown (node (given_by sources) field) shown
IsWrongValue sources (fault.Table part) shown = IsShown (table_at (given_by sources) (Some (part_key part))) shown
IsWrongValue sources _ shown = shown ≡ None

-- the key of a table and a key in it, with a dot between
abbrev pub key_name : Option (List ℕ) → List ℕ → List ℕ
key_name None key = key
key_name (Some table) key = table ++ codes "." ++ key

-- the value at a key of a document's table, or at its top
abbrev pub value_at : Option (List ℕ) → List ℕ → Option FileNode → Option FileNode
value_at None key document = option_and_then (get key) document
value_at (Some table) key document = option_and_then (get key) (option_and_then (get table) document)

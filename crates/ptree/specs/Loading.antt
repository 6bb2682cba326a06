-- The configuration of sources, and the first fault in them.
use Rattle.std.specs.Prelude.{◌≡◌, ℕ, ◌&&◌, ◌||◌, Bool, true, false, not, if◌then◌else◌, List, [], ◌∷◌, map, Option, Some, None, is_some, is_none, option_and_then, unwrap_or}
use Rattle.std.specs.List.{list_any}
use Rattle.std.specs.Option.{option_or}
use Rattle.ptree.specs.declared.print_config.FileSource.{FileSource}
use Rattle.ptree.specs.declared.print_config.FileSource.TheVariants.{Absent, Unreadable, Toml, Json}
use Rattle.ptree.specs.declared.print_config.Sources.{Sources}
use Rattle.ptree.specs.declared.print_config.StyleWhen.{StyleWhen}
use Rattle.ptree.specs.declared.print_config.fields.Field.{Field}
use Rattle.ptree.specs.declared.print_config.fields.Field.TheVariants as field
use Rattle.ptree.specs.declared.print_config.fields.Kind.{Kind}
use Rattle.ptree.specs.declared.print_config.fields.Kind.TheVariants.{Whole, When, Set, Text, Color, Flag}
use Rattle.ptree.specs.declared.print_config.fields.Part.{Part}
use Rattle.ptree.specs.declared.print_config.fields.Part.TheVariants.{Branch, Leaf}
use Rattle.ptree.specs.declared.print_config.fields.StyleField.TheVariants.{Foreground, Background, Bold, Dimmed, Italic, Underline, Blink, Reverse, Hidden, Strikethrough}
use Rattle.ptree.specs.declared.print_config.loader.Fault.{Fault}
use Rattle.ptree.specs.declared.print_config.loader.Fault.TheVariants as fault
use Rattle.ptree.specs.Characters.{Characters, parse_set, utf}
use Rattle.ptree.specs.Color.{ColorValue}
use Rattle.ptree.specs.Config.{ConfigValue, default_config}
use Rattle.ptree.specs.Fields.{part_key, kind_of, all_fields, all_style_fields}
use Rattle.ptree.specs.File.{FileNode, is_table, is_null, as_text, as_flag, whole_node, when_node, set_node, color_node}
use Rattle.ptree.specs.Style.{StyleValue}
use Rattle.ptree.specs.Sources.{Given, given_by, file_document, variable, table_at, node}
use Rattle.ptree.specs.declared.print_config.parse.Spelling.TheVariants.{AnyCase}
use Rattle.ptree.specs.Parse.{parse_when, parse_flag, parse_number, parse_color}

-- the value of a field's variable, or else of its key
abbrev pub look_up : {A : Type 0} → (List ℕ → Option A) → (FileNode → Option A) → Given → Field → Option A
look_up by_text by_node given field = option_or (option_and_then by_text (variable given field)) (option_and_then by_node (node given field))

-- the value of a field that accepts whole numbers up to this one
abbrev pub whole : ℕ → Given → Field → Option ℕ
whole greatest = look_up (parse_number greatest) (whole_node greatest)

-- the value of a field that says when to style
abbrev pub when : Given → Field → Option StyleWhen
when = look_up (parse_when AnyCase) when_node

-- the value of a field that accepts a set of characters
abbrev pub set : Given → Field → Option Characters
set = look_up (parse_set AnyCase) set_node

-- the value of a field that accepts any text
abbrev pub text : Given → Field → Option (List ℕ)
text = look_up Some as_text

-- the value of a field that accepts a colour
abbrev pub color : Given → Field → Option ColorValue
color = look_up (λ value. Some (parse_color value)) color_node

-- the value of a field that accepts true or false
abbrev pub flag : Given → Field → Option Bool
flag = look_up parse_flag as_flag

-- the characters: a set, or else the regular one, with single characters by their variables
unfoldable pub characters : Given → Characters
characters given =
    let base = unwrap_or (set given field.Characters) utf in
    record {
      down_and_right = unwrap_or (variable given field.DownAndRight) base.down_and_right;
      down = unwrap_or (variable given field.Down) base.down;
      turn_right = unwrap_or (variable given field.TurnRight) base.turn_right;
      right = unwrap_or (variable given field.Right) base.right;
      empty = unwrap_or (variable given field.Empty) base.empty;
    }

-- whether there is a variable of a field of the style of a part
abbrev pub has_variable : Given → Part → Bool
has_variable given part = list_any (λ f. is_some (variable given (field.Paint part f))) all_style_fields

-- whether a part is dimmed if no source says so: branches are, if the file has no key for their
-- style and no variable is one of its fields
abbrev pub is_dimmed : Given → Part → Bool
is_dimmed given Branch = is_none (table_at given (Some (part_key Branch))) && not (has_variable given Branch)
is_dimmed given Leaf = false

-- the style of a part
unfoldable pub loaded_style : Given → Part → StyleValue
loaded_style given part = record {
  foreground = color given (field.Paint part Foreground);
  background = color given (field.Paint part Background);
  bold = unwrap_or (flag given (field.Paint part Bold)) false;
  dimmed = unwrap_or (flag given (field.Paint part Dimmed)) (is_dimmed given part);
  italic = unwrap_or (flag given (field.Paint part Italic)) false;
  underline = unwrap_or (flag given (field.Paint part Underline)) false;
  blink = unwrap_or (flag given (field.Paint part Blink)) false;
  reverse = unwrap_or (flag given (field.Paint part Reverse)) false;
  hidden = unwrap_or (flag given (field.Paint part Hidden)) false;
  strikethrough = unwrap_or (flag given (field.Paint part Strikethrough)) false;
}

-- the configuration, each field by itself: its variable's value, or else its key's, or else the
-- default
unfoldable pub configuration : Given → ConfigValue
configuration given = record {
  depth = unwrap_or (whole 4294967295 given field.Depth) default_config.depth;
  indent = unwrap_or (whole 18446744073709551615 given field.Indent) default_config.indent;
  padding = unwrap_or (whole 18446744073709551615 given field.Padding) default_config.padding;
  styled = unwrap_or (when given field.Styled) default_config.styled;
  characters = characters given;
  branch = loaded_style given Branch;
  leaf = loaded_style given Leaf;
  continued = unwrap_or (text given field.Continued) default_config.continued;
}

-- whether fields of a kind accept a variable's text
abbrev pub text_fits : Kind → List ℕ → Bool
text_fits (Whole greatest) value = is_some (parse_number greatest value)
text_fits When value = is_some (parse_when AnyCase value)
text_fits Set value = is_some (parse_set AnyCase value)
text_fits Text value = true
text_fits Color value = true
text_fits Flag value = is_some (parse_flag value)

-- whether fields of a kind accept a value of a file
abbrev pub node_fits : Kind → FileNode → Bool
node_fits (Whole greatest) value = is_some (whole_node greatest value)
node_fits When value = is_some (when_node value)
node_fits Set value = is_some (set_node value)
node_fits Text value = is_some (as_text value)
node_fits Color value = is_null value || is_some (color_node value)
node_fits Flag value = is_some (as_flag value)

-- this fault, if there is a value that is not accepted
abbrev pub fault_unless : {A : Type 0} → (A → Bool) → Fault → Option A → Option Fault
fault_unless fits fault None = None
fault_unless fits fault (Some value) = if fits value then None else Some fault

-- the fault of a field's variable
abbrev pub variable_fault : Given → Field → Option Fault
variable_fault given field = fault_unless (text_fits (kind_of field)) (fault.Variable field) (variable given field)

-- the fault of a field's key
abbrev pub key_fault : Given → Field → Option Fault
key_fault given field = fault_unless (node_fits (kind_of field)) (fault.Key field) (node given field)

-- the fault of a field: that of its variable, or else that of its key
abbrev pub field_fault : Given → Field → Option Fault
field_fault given field = option_or (variable_fault given field) (key_fault given field)

-- the fault of a part whose key holds a value that is not a table
abbrev pub table_fault : Given → Part → Option Fault
table_fault given part = fault_unless is_table (fault.Table part) (table_at given (Some (part_key part)))

-- the fault of a file that has no document
abbrev pub file_fault : FileSource → Option Fault
file_fault Absent = None
file_fault Unreadable = Some fault.Unreadable
file_fault (Toml t) = if is_some (file_document (Toml t)) then None else Some fault.Syntax
file_fault (Json t) = if is_some (file_document (Json t)) then None else Some fault.Syntax

-- the first value that is there
abbrev pub first_of : {A : Type 0} → List (Option A) → Option A
first_of [] = None
first_of (o ∷ os) = option_or o (first_of os)

-- the first fault: of the file as a whole, of its tables, then of the fields in their order
unfoldable pub fault_in : Option Fault → Given → Option Fault
fault_in file given = first_of (file ∷ table_fault given Branch ∷ table_fault given Leaf ∷ map (field_fault given) all_fields)

-- the first fault in the sources
abbrev pub first_fault : Sources → Option Fault
first_fault sources = fault_in (file_fault sources.file) (given_by sources)

-- a value, if there is no fault
abbrev pub unless_fault : {A : Type 0} → Option Fault → A → Option A
unless_fault None value = Some value
unless_fault (Some fault) value = None

-- the configuration of sources, or none if there is a fault in them
abbrev pub loaded_config : Sources → Option ConfigValue
loaded_config sources = unless_fault (first_fault sources) (configuration (given_by sources))

-- the configuration that sources mean: the complete default if there is a fault in them
abbrev pub effective_config : Sources → ConfigValue
effective_config sources = unwrap_or (loaded_config sources) default_config

-- there is no file, and no variable of a field
pub record SayNothing (sources : Sources) : Type 0 where
  pub file : sources.file ≡ Absent
  pub variables : (field : Field) → variable (given_by sources) field ≡ None

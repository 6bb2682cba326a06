-- What the values of a configuration file mean, in either format.
use Rattle.std.specs.Prelude.{ℕ, ℤ, pos, negsuc, Bool, false, if◌then◌else◌, List, Option, Some, None, is_some, option_map, option_and_then, unwrap_or, codes, nat_le}
use Rattle.std.proofs.Common.{inl, inr}
use Rattle.std.specs.Option.{option_or}
use Rattle.serde_json.specs.Data as j
use Rattle.serde_json.specs.Find as jf
use Rattle.toml.specs.Data as t
use Rattle.ptree.specs.declared.print_config.file.Rgb.{Rgb}
use Rattle.ptree.specs.declared.print_config.StyleWhen.{StyleWhen}
use Rattle.ptree.specs.declared.print_config.parse.Spelling.TheVariants.{Exact}
use Rattle.ptree.specs.declared.style.color.Color.{Color}
use Rattle.ptree.specs.declared.style.color.Color.TheVariants.{Fixed, RGB}
use Rattle.ptree.specs.Characters.{Characters, parse_set, utf}
use Rattle.ptree.specs.Color.{ColorValue}
use Rattle.ptree.specs.Parse.{parse_when}

-- a value in a file
pub data FileNode : Type 0 where
  json : j.Data → FileNode
  toml : t.Data → FileNode

-- the value at a key, exactly as spelled, if the value is a table that has the key
abbrev pub get : List ℕ → FileNode → Option FileNode
get key (json d) = option_map json (jf.get key d)
get key (toml d) = option_map toml (t.get key d)

-- whether a value is a table of TOML, or an object of JSON
abbrev pub is_table : FileNode → Bool
is_table (json d) = is_some (jf.as_object d)
is_table (toml d) = is_some (t.as_table d)

-- the text, if a value is one
abbrev pub as_text : FileNode → Option (List ℕ)
as_text (json d) = jf.as_str d
as_text (toml d) = t.as_str d

-- true or false, if a value is one of them
abbrev pub as_flag : FileNode → Option Bool
as_flag (json d) = jf.as_bool d
as_flag (toml d) = t.as_bool d

-- whether a value is null, which TOML does not have
abbrev pub is_null : FileNode → Bool
is_null (json d) = is_some (jf.as_null d)
is_null (toml d) = false

-- a number, if it is not negative
abbrev pub natural : ℤ → Option ℕ
natural (pos n) = Some n
natural (negsuc n) = None

-- the whole number, if a value is one that is not negative
abbrev pub as_whole : FileNode → Option ℕ
as_whole (json d) = option_and_then jf.as_u64 (jf.as_number d)
as_whole (toml d) = option_and_then natural (t.as_integer d)

-- a number, if it is at most this one
abbrev pub at_most : ℕ → ℕ → Option ℕ
at_most greatest n = if nat_le n greatest then Some n else None

-- the whole number, if a value is one that is at most this one
abbrev pub whole_node : ℕ → FileNode → Option ℕ
whole_node greatest node = option_and_then (at_most greatest) (as_whole node)

-- when to style, by its word exactly as spelled
abbrev pub when_node : FileNode → Option StyleWhen
when_node node = option_and_then (parse_when Exact) (as_text node)

-- the text at a key, or else this one
abbrev pub text_at : List ℕ → FileNode → List ℕ → List ℕ
text_at key node other = unwrap_or (option_and_then as_text (get key node)) other

-- the characters in a table, with those of the regular set for missing ones
abbrev pub characters_in : FileNode → Characters
characters_in node = record {
  down_and_right = text_at (codes "down_and_right") node utf.down_and_right;
  down = text_at (codes "down") node utf.down;
  turn_right = text_at (codes "turn_right") node utf.turn_right;
  right = text_at (codes "right") node utf.right;
  empty = text_at (codes "empty") node utf.empty;
}

-- the characters, if a value is a table
abbrev pub table_characters : FileNode → Option Characters
table_characters node = if is_table node then Some (characters_in node) else None

-- the set that a text names, or the characters in a table
abbrev pub set_node : FileNode → Option Characters
set_node node = option_or (option_and_then (parse_set Exact) (as_text node)) (table_characters node)

-- red, green and blue, if all are there
abbrev pub rgb : Option ℕ → Option ℕ → Option ℕ → Option Rgb
rgb (Some r) (Some g) (Some b) = Some (record { red = r; green = g; blue = b })
rgb _ _ _ = None

-- the bytes of a list of exactly three, in JSON
abbrev pub json_rgb : j.Items → Option Rgb
json_rgb (j.item r (j.item g (j.item b j.no_items))) = rgb (whole_node 255 (json r)) (whole_node 255 (json g)) (whole_node 255 (json b))
json_rgb _ = None

-- the bytes of a list of exactly three, in TOML
abbrev pub toml_rgb : t.Items → Option Rgb
toml_rgb (t.item r (t.item g (t.item b t.no_items))) = rgb (whole_node 255 (toml r)) (whole_node 255 (toml g)) (whole_node 255 (toml b))
toml_rgb _ = None

-- the bytes of a list of exactly three: red, green and blue
abbrev pub as_rgb : FileNode → Option Rgb
as_rgb (json d) = option_and_then json_rgb (jf.as_array d)
as_rgb (toml d) = option_and_then toml_rgb (t.as_array d)

-- the colour of a byte (one of the terminal's table), or of three bytes (red, green and blue)
abbrev pub color_numbers : FileNode → Option Color
color_numbers node = option_or (option_map Fixed (whole_node 255 node)) (option_map (λ c. RGB c.red c.green c.blue) (as_rgb node))

-- the colour of a text (a name), or of numbers
abbrev pub color_node : FileNode → Option ColorValue
color_node node = option_or (option_map inr (as_text node)) (option_map inl (color_numbers node))

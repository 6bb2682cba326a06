-- The fields of a configuration: their names in variables and in files, and the values they accept.
use Rattle.std.specs.Prelude.{ℕ, List, [], ◌∷◌, ◌++◌, map, Contains, Option, Some, None, codes}
use Rattle.std.specs.Str.{str_to_ascii_uppercase}
use Rattle.ptree.specs.declared.print_config.fields.Part.{Part}
use Rattle.ptree.specs.declared.print_config.fields.Part.TheVariants.{Branch, Leaf}
use Rattle.ptree.specs.declared.print_config.fields.StyleField.{StyleField}
use Rattle.ptree.specs.declared.print_config.fields.StyleField.TheVariants.{Foreground, Background, Bold, Dimmed, Italic, Underline, Blink, Reverse, Hidden, Strikethrough}
use Rattle.ptree.specs.declared.print_config.fields.Field.{Field}
use Rattle.ptree.specs.declared.print_config.fields.Field.TheVariants.{Depth, Indent, Padding, Styled, Characters, DownAndRight, Down, TurnRight, Right, Empty, Paint, Continued}
use Rattle.ptree.specs.declared.print_config.fields.Kind.{Kind}
use Rattle.ptree.specs.declared.print_config.fields.Kind.TheVariants.{Whole, When, Set, Text, Color, Flag}

-- the key of the table of a part's style
abbrev pub part_key : Part → List ℕ
part_key Branch = codes "branch"
part_key Leaf = codes "leaf"

-- the key of a field of a style
abbrev pub style_key : StyleField → List ℕ
style_key Foreground = codes "foreground"
style_key Background = codes "background"
style_key Bold = codes "bold"
style_key Dimmed = codes "dimmed"
style_key Italic = codes "italic"
style_key Underline = codes "underline"
style_key Blink = codes "blink"
style_key Reverse = codes "reverse"
style_key Hidden = codes "hidden"
style_key Strikethrough = codes "strikethrough"

-- the key of a field
abbrev pub field_key : Field → List ℕ
field_key Depth = codes "depth"
field_key Indent = codes "indent"
field_key Padding = codes "padding"
field_key Styled = codes "styled"
field_key Characters = codes "characters"
field_key DownAndRight = codes "down_and_right"
field_key Down = codes "down"
field_key TurnRight = codes "turn_right"
field_key Right = codes "right"
field_key Empty = codes "empty"
field_key (Paint part field) = style_key field
field_key Continued = codes "continued"

-- the key of the table that holds a field, if there is one
abbrev pub table_key : Field → Option (List ℕ)
table_key DownAndRight = Some (codes "characters")
table_key Down = Some (codes "characters")
table_key TurnRight = Some (codes "characters")
table_key Right = Some (codes "characters")
table_key Empty = Some (codes "characters")
table_key (Paint part field) = Some (part_key part)
table_key _ = None

-- a field's key after a table's, with `_` between
abbrev pub after_table : Option (List ℕ) → List ℕ → List ℕ
after_table None key = key
after_table (Some table) key = table ++ codes "_" ++ key

-- the name of a field's variable: ptree, the key of its table and its own key, with `_` between, in
-- upper case
abbrev pub variable_name : Field → List ℕ
variable_name field = str_to_ascii_uppercase (codes "ptree_" ++ after_table (table_key field) (field_key field))

-- what a field of a style accepts
abbrev pub style_kind : StyleField → Kind
style_kind Foreground = Color
style_kind Background = Color
style_kind _ = Flag

-- what a field accepts
abbrev pub kind_of : Field → Kind
kind_of Depth = Whole 4294967295
kind_of Indent = Whole 18446744073709551615
kind_of Padding = Whole 18446744073709551615
kind_of Styled = When
kind_of Characters = Set
kind_of (Paint part field) = style_kind field
kind_of _ = Text

-- all fields of a style
abbrev pub all_style_fields : List StyleField
all_style_fields =
    Foreground ∷ Background ∷ Bold ∷ Dimmed ∷ Italic ∷ Underline ∷ Blink ∷ Reverse ∷ Hidden ∷ Strikethrough ∷ []

-- all fields, in the order in which faults are looked for
abbrev pub all_fields : List Field
all_fields =
    Depth ∷ Indent ∷ Padding ∷ Styled ∷ Characters ∷ DownAndRight ∷ Down ∷ TurnRight ∷ Right ∷ Empty
    ∷ map (Paint Branch) all_style_fields ++ map (Paint Leaf) all_style_fields ++ Continued ∷ []

-- each value of a type is in the list
abbrev pub HasEach : {A : Type 0} → List A → Type 0
HasEach {A} list = (value : A) → Contains list value

-- What `config` writes of the settings.
use Rattle.std.specs.Prelude.{◌≡◌, ◌≢◌, ◌⊎◌, ⊤, ℕ, Bool, if◌then◌else◌, List, [], ◌++◌, codes, decimal, Option, Some, None, option_map, unwrap_or}
use Rattle.std.proofs.Common.{inl, inr}
use Rattle.ptree.specs.declared.print_config.StyleWhen.{StyleWhen}
use Rattle.ptree.specs.declared.print_config.StyleWhen.TheVariants.{Never, Always, Tty}
use Rattle.ptree.specs.declared.print_config.fields.Field.{Field}
use Rattle.ptree.specs.declared.print_config.fields.Field.TheVariants.{Depth, Indent, Padding, Styled, Characters, DownAndRight, Down, TurnRight, Right, Empty, Paint, Continued}
use Rattle.ptree.specs.declared.print_config.fields.Part.TheVariants.{Branch, Leaf}
use Rattle.ptree.specs.declared.print_config.fields.StyleField.{StyleField}
use Rattle.ptree.specs.declared.print_config.fields.StyleField.TheVariants.{Foreground, Background, Bold, Dimmed, Italic, Underline, Blink, Reverse, Hidden, Strikethrough}
use Rattle.ptree.specs.declared.style.color.Color.TheVariants.{Fixed, RGB}
use Rattle.ptree.specs.Color.{ColorValue}
use Rattle.ptree.specs.Config.{ConfigValue}
use Rattle.ptree.specs.Fields.{all_fields, field_key, table_key}
use Rattle.ptree.specs.Style.{StyleValue}
use Rattle.ptree_trees.specs.Escape.{escaped_text}
use Rattle.trees.specs.Reading.{Adds}

-- a field's name: its key, behind that of its table
abbrev pub setting_name : Field → List ℕ
setting_name field = unwrap_or (option_map (λ table. table ++ codes ".") (table_key field)) [] ++ field_key field

-- when drawings are styled
abbrev pub when_word : StyleWhen → List ℕ
when_word Never = codes "never"
when_word Always = codes "always"
when_word Tty = codes "tty"

-- a text between quotes, escaped
abbrev pub quoted : List ℕ → List ℕ
quoted text = codes "\"" ++ (escaped_text text ++ codes "\"")

-- true or false
abbrev pub flag_word : Bool → List ℕ
flag_word flag = if flag then codes "true" else codes "false"

-- the text of a colour; sources mean no other ones than these
abbrev pub IsColorText : Option ColorValue → List ℕ → Type 0
IsColorText None text = text ≡ codes "none"
IsColorText (Some (inr name)) text = text ≡ escaped_text name
IsColorText (Some (inl (Fixed n))) text = text ≡ decimal n
IsColorText (Some (inl (RGB r g b))) text = text ≡ codes "[" ++ (decimal r ++ (codes ", " ++ (decimal g ++ (codes ", " ++ (decimal b ++ codes "]")))))
IsColorText (Some (inl _)) text = ⊤

-- the text of a field of a style
abbrev pub IsStyleText : StyleValue → StyleField → List ℕ → Type 0
IsStyleText style Foreground text = IsColorText style.foreground text
IsStyleText style Background text = IsColorText style.background text
IsStyleText style Bold text = text ≡ flag_word style.bold
IsStyleText style Dimmed text = text ≡ flag_word style.dimmed
IsStyleText style Italic text = text ≡ flag_word style.italic
IsStyleText style Underline text = text ≡ flag_word style.underline
IsStyleText style Blink text = text ≡ flag_word style.blink
IsStyleText style Reverse text = text ≡ flag_word style.reverse
IsStyleText style Hidden text = text ≡ flag_word style.hidden
IsStyleText style Strikethrough text = text ≡ flag_word style.strikethrough

-- the text of the value of a field
abbrev pub IsValueText : ConfigValue → Field → List ℕ → Type 0
IsValueText config Depth text = text ≡ decimal config.depth
IsValueText config Indent text = text ≡ decimal config.indent
IsValueText config Padding text = text ≡ decimal config.padding
IsValueText config Styled text = text ≡ when_word config.styled
IsValueText config Characters text = ⊤
IsValueText config DownAndRight text = text ≡ quoted config.characters.down_and_right
IsValueText config Down text = text ≡ quoted config.characters.down
IsValueText config TurnRight text = text ≡ quoted config.characters.turn_right
IsValueText config Right text = text ≡ quoted config.characters.right
IsValueText config Empty text = text ≡ quoted config.characters.empty
IsValueText config (Paint Branch field) text = IsStyleText config.branch field text
IsValueText config (Paint Leaf field) text = IsStyleText config.leaf field text
IsValueText config Continued text = text ≡ quoted config.continued

-- the line of a field: its name, its value, and in parentheses where that comes from; the set of
-- characters has none, since they have theirs
abbrev pub IsSettingLine : ConfigValue → Field → List ℕ → Type 0
IsSettingLine config field line =
    ((field ≡ Characters) × (line ≡ []))
    ⊎ ((field ≢ Characters) × (value : List ℕ) × (origin : List ℕ) × IsValueText config field value × (line ≡ (setting_name field ++ (codes ": " ++ value)) ++ (codes " (" ++ (origin ++ codes ")\n"))))

-- a text ends with such lines of all fields, in their order
abbrev pub SaysSettings : ConfigValue → List ℕ → Type 0
SaysSettings config text = (head : List ℕ) × Adds (IsSettingLine config) all_fields head text

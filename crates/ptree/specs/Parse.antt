-- What the texts of variables and files mean: keywords, numbers and colours.
use Rattle.std.specs.Prelude.{ℕ, ◌&&◌, Bool, true, false, if◌then◌else◌, List, [], ◌∷◌, Option, Some, None, codes, length, nat_lt, nat_le}
use Rattle.std.proofs.Common.{inl, inr}
use Rattle.std.specs.List.{list_any}
use Rattle.std.specs.Str.{str_eq_ignore_ascii_case, str_to_ascii_lowercase, all_ascii_digits}
use Rattle.std.specs.Str.Parse.{digits_value}
use Rattle.ptree.specs.declared.print_config.parse.Spelling.{Spelling}
use Rattle.ptree.specs.declared.print_config.StyleWhen.{StyleWhen}
use Rattle.ptree.specs.declared.print_config.StyleWhen.TheVariants.{Never, Always, Tty}
use Rattle.ptree.specs.declared.style.color.Color.TheVariants.{Fixed}
use Rattle.ptree.specs.Characters.{is_spelled}
use Rattle.ptree.specs.Color.{ColorValue}

-- when to style, by its keyword
abbrev pub parse_when : Spelling → List ℕ → Option StyleWhen
parse_when spelling text =
    if is_spelled spelling text (codes "never") then Some Never else
    if is_spelled spelling text (codes "always") then Some Always else
    if is_spelled spelling text (codes "tty") then Some Tty else None

-- a text is one of these keywords, in any ASCII case
abbrev pub is_one_of : List (List ℕ) → List ℕ → Bool
is_one_of keywords text = list_any (λ keyword. str_eq_ignore_ascii_case text keyword) keywords

-- true or false, each by one of four keywords
abbrev pub parse_flag : List ℕ → Option Bool
parse_flag text =
    if is_one_of (codes "1" ∷ codes "true" ∷ codes "on" ∷ codes "yes" ∷ []) text then Some true else
    if is_one_of (codes "0" ∷ codes "false" ∷ codes "off" ∷ codes "no" ∷ []) text then Some false else None

-- the number of one or more ASCII digits, if it is at most this one
abbrev pub parse_number : ℕ → List ℕ → Option ℕ
parse_number greatest text =
    if nat_lt 0 (length text) && (all_ascii_digits text && nat_le (digits_value 10 text) greatest) then Some (digits_value 10 text) else None

-- the colour of a number, or else of a name in lower case
abbrev pub color_or_name : Option ℕ → List ℕ → ColorValue
color_or_name (Some n) text = inl (Fixed n)
color_or_name None text = inr (str_to_ascii_lowercase text)

-- the colour of a variable's text: one to three digits of at most 255 are a number, and any other
-- text is a name
abbrev pub parse_color : List ℕ → ColorValue
parse_color text = color_or_name (if nat_le (length text) 3 then parse_number 255 text else None) text

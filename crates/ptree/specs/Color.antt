-- Colours: the parameters of their codes, and the known names. Single parameters are those of
-- ECMA-48, SELECT GRAPHIC RENDITION; the forms with 38 and 48 are xterm's, and the rules for names
-- are this crate's own.
use Rattle.std.specs.Prelude.{◌⊎◌, ℕ, ◌+◌, ◌*◌, ◌==◌, ◌&&◌, Bool, if◌then◌else◌, List, [], ◌∷◌, Option, Some, None, option_map, codes, length, drop, slice_index, position, find, bytes_eq, string_bytes}
use Rattle.std.proofs.Common.{inl, inr}
use Rattle.std.specs.Char.{digit_value, is_ascii_hexdigit}
use Rattle.std.specs.List.{list_all}
use Rattle.std.specs.Option.{option_or}
use Rattle.std.specs.Str.{str_eq_ignore_ascii_case}
use Rattle.ptree.specs.declared.style.tone.Side.{Side}
use Rattle.ptree.specs.declared.style.tone.Side.TheVariants.{Foreground, Background}
use Rattle.ptree.specs.declared.style.tone.Tone.{Tone}
use Rattle.ptree.specs.declared.style.tone.Tone.TheVariants.{Eight, Indexed, Direct}
use Rattle.ptree.specs.declared.style.color.Color.{Color}
use Rattle.ptree.specs.declared.style.color.Color.TheVariants.{Black, Red, Green, Yellow, Blue, Purple, Cyan, White, Fixed, RGB, Named}

-- a colour, with a name by its bytes
abbrev pub ColorValue : Type 0
ColorValue = Color ⊎ List ℕ

-- the value of a colour
abbrev pub color_of : Color → ColorValue
color_of (Named name) = inr (string_bytes name)
color_of color = inl color

-- the parameter of colour 0 on a side
abbrev pub base : Side → ℕ
base Foreground = 30
base Background = 40

-- the parameter on a side that comes before a number of the terminal's table, or before red, green
-- and blue
abbrev pub extended : Side → ℕ
extended Foreground = 38
extended Background = 48

-- the parameters that set a tone
abbrev pub tone_parameters : Side → Tone → List ℕ
tone_parameters side (Eight k) = (base side + k) ∷ []
tone_parameters side (Indexed n) = extended side ∷ 5 ∷ n ∷ []
tone_parameters side (Direct r g b) = extended side ∷ 2 ∷ r ∷ g ∷ b ∷ []

-- the eight words, in the order of their colours
abbrev pub basic_names : List (List ℕ)
basic_names =
    codes "black" ∷ codes "red" ∷ codes "green" ∷ codes "yellow" ∷ codes "blue" ∷ codes "purple" ∷ codes "cyan" ∷ codes "white" ∷ []

-- the tone of one of the eight words, exactly spelled
abbrev pub basic_tone : List ℕ → Option Tone
basic_tone name = option_map Eight (position (λ word. bytes_eq word name) basic_names)

-- `#` and exactly six hexadecimal digits of any case
abbrev pub is_hex_name : List ℕ → Bool
is_hex_name name = (length name == 7) && (slice_index name 0 == 35) && list_all is_ascii_hexdigit (drop 1 name)

-- the byte of the two digits at a place
abbrev pub hex_byte : List ℕ → ℕ → ℕ
hex_byte name at = 16 * digit_value (slice_index name at) + digit_value (slice_index name (at + 1))

-- the tone of the six digits: bytes of red, green and blue
abbrev pub hex_tone : List ℕ → Option Tone
hex_tone name = if is_hex_name name then Some (Direct (hex_byte name 1) (hex_byte name 3) (hex_byte name 5)) else None

-- a name in lower case, with its bytes
pub record NamedColor : Type 0 where
  pub name : List ℕ
  pub red : ℕ
  pub green : ℕ
  pub blue : ℕ

-- a name with its bytes of red, green and blue
abbrev pub named_color : List ℕ → ℕ → ℕ → ℕ → NamedColor
named_color name r g b = record { name = name; red = r; green = g; blue = b }

-- the sixteen names of HTML 4.01, and two more
abbrev pub named_colors : List NamedColor
named_colors =
    named_color (codes "black") 0 0 0 ∷ named_color (codes "silver") 192 192 192 ∷ named_color (codes "gray") 128 128 128
    ∷ named_color (codes "white") 255 255 255 ∷ named_color (codes "maroon") 128 0 0 ∷ named_color (codes "red") 255 0 0
    ∷ named_color (codes "purple") 128 0 128 ∷ named_color (codes "fuchsia") 255 0 255 ∷ named_color (codes "green") 0 128 0
    ∷ named_color (codes "lime") 0 255 0 ∷ named_color (codes "olive") 128 128 0 ∷ named_color (codes "yellow") 255 255 0
    ∷ named_color (codes "navy") 0 0 128 ∷ named_color (codes "blue") 0 0 255 ∷ named_color (codes "teal") 0 128 128
    ∷ named_color (codes "aqua") 0 255 255 ∷ named_color (codes "steelblue") 70 130 180 ∷ named_color (codes "mediumseagreen") 60 179 113 ∷ []

-- the tone of one of those names, in any ASCII case
abbrev pub table_tone : List ℕ → Option Tone
table_tone name = option_map (λ c. Direct c.red c.green c.blue) (find (λ c. str_eq_ignore_ascii_case c.name name) named_colors)

-- the tone that a text names, by the first rule that matches
unfoldable pub named_tone : List ℕ → Option Tone
named_tone name = option_or (basic_tone name) (option_or (hex_tone name) (table_tone name))

-- the tone of a colour; an unknown name has none
abbrev pub tone_of : ColorValue → Option Tone
tone_of (inl Black) = Some (Eight 0)
tone_of (inl Red) = Some (Eight 1)
tone_of (inl Green) = Some (Eight 2)
tone_of (inl Yellow) = Some (Eight 3)
tone_of (inl Blue) = Some (Eight 4)
tone_of (inl Purple) = Some (Eight 5)
tone_of (inl Cyan) = Some (Eight 6)
tone_of (inl White) = Some (Eight 7)
tone_of (inl (Fixed n)) = Some (Indexed n)
tone_of (inl (RGB r g b)) = Some (Direct r g b)
tone_of (inl (Named name)) = named_tone (string_bytes name)
tone_of (inr name) = named_tone name

-- the parameters that set a colour on a side, if it has a tone
abbrev pub color_parameters : ColorValue → Side → Option (List ℕ)
color_parameters color side = option_map (tone_parameters side) (tone_of color)

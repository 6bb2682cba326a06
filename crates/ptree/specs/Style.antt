-- Painted texts. Single parameters are those of ECMA-48, SELECT GRAPHIC RENDITION; the order of the
-- codes is this crate's own.
use Rattle.std.specs.Prelude.{◌≡◌, ℕ, Bool, false, List, [], ◌∷◌, ◌++◌, Option, None, map, filter, flat_map, option_map, option_and_then, option_to_list, decimal}
use Rattle.std.specs.List.{join_with_byte}
use Rattle.ptree.specs.declared.style.Style.{Style}
use Rattle.ptree.specs.declared.style.tone.Side.{Side}
use Rattle.ptree.specs.declared.style.tone.Side.TheVariants.{Foreground, Background}
use Rattle.ptree.specs.Color.{ColorValue, color_of, color_parameters}

-- a style, names of colours by their bytes
pub record StyleValue : Type 0 where
  pub foreground : Option ColorValue
  pub background : Option ColorValue
  pub bold : Bool
  pub dimmed : Bool
  pub italic : Bool
  pub underline : Bool
  pub blink : Bool
  pub reverse : Bool
  pub hidden : Bool
  pub strikethrough : Bool

-- the value that a style holds
abbrev pub style_of : Style → StyleValue
style_of style = record {
  foreground = option_map color_of style.foreground;
  background = option_map color_of style.background;
  bold = style.bold;
  dimmed = style.dimmed;
  italic = style.italic;
  underline = style.underline;
  blink = style.blink;
  reverse = style.reverse;
  hidden = style.hidden;
  strikethrough = style.strikethrough;
}

-- no colour and no flag
abbrev pub plain_style : Style
plain_style = record {
  foreground = None;
  background = None;
  bold = false;
  dimmed = false;
  italic = false;
  underline = false;
  blink = false;
  reverse = false;
  hidden = false;
  strikethrough = false;
}

-- the value that the plain style holds
abbrev pub plain_value : StyleValue
plain_value = style_of plain_style

-- ESC [, the parameters in decimal with `;` between them, and m
abbrev pub code : List ℕ → List ℕ
code parameters = 27 ∷ 91 ∷ join_with_byte 59 (map decimal parameters) ++ 109 ∷ []

-- the flags and their parameters, in order
abbrev pub flags : StyleValue → List (Bool × ℕ)
flags style =
    (style.bold, 1) ∷ (style.dimmed, 2) ∷ (style.italic, 3) ∷ (style.underline, 4)
    ∷ (style.blink, 5) ∷ (style.reverse, 7) ∷ (style.hidden, 8) ∷ (style.strikethrough, 9) ∷ []

-- a code for each flag that is set
abbrev pub flag_codes : List (Bool × ℕ) → List (List ℕ)
flag_codes flags = map (λ flag. code (flag.1 ∷ [])) (filter (λ flag. flag.0) flags)

-- the code that sets a colour on a side; an unknown name has none
abbrev pub color_code : ColorValue → Side → Option (List ℕ)
color_code color side = option_map code (color_parameters color side)

-- the code that sets a side, if there is one
abbrev pub side_codes : Option ColorValue → Side → List (List ℕ)
side_codes color side = option_to_list (option_and_then (λ c. color_code c side) color)

-- the codes of a style, in order
unfoldable pub style_codes : StyleValue → List (List ℕ)
style_codes style = flag_codes (flags style) ++ side_codes style.foreground Foreground ++ side_codes style.background Background

-- there is no colour, or it has no code
abbrev pub SetsNone : Option ColorValue → Side → Type 0
SetsNone color side = option_and_then (λ c. color_parameters c side) color ≡ None

-- no flag is set, and there is no colour that has a code
pub record IsPlain (style : StyleValue) : Type 0 where
  pub bold : style.bold ≡ false
  pub dimmed : style.dimmed ≡ false
  pub italic : style.italic ≡ false
  pub underline : style.underline ≡ false
  pub blink : style.blink ≡ false
  pub reverse : style.reverse ≡ false
  pub hidden : style.hidden ≡ false
  pub strikethrough : style.strikethrough ≡ false
  pub foreground : SetsNone style.foreground Foreground
  pub background : SetsNone style.background Background

-- the codes before a painted text
abbrev pub start_codes : StyleValue → List ℕ
start_codes style = flat_map (λ code. code) (style_codes style)

-- the code that ends all styles: ESC [0m
abbrev pub reset_code : List ℕ
reset_code = 27 ∷ 91 ∷ 48 ∷ 109 ∷ []

-- the reset, if there are codes, given one by one or joined
abbrev pub reset_after : {X : Type 0} → List X → List ℕ
reset_after [] = []
reset_after (x ∷ xs) = reset_code

-- the codes after a painted text
abbrev pub end_codes : StyleValue → List ℕ
end_codes style = reset_after (style_codes style)

-- the codes, the text and the reset; only the text if there is no code
abbrev pub painted_text : StyleValue → List ℕ → List ℕ
painted_text style text = start_codes style ++ text ++ end_codes style

-- What the fields of a configuration mean.
use Rattle.std.specs.Prelude.{ℕ, ◌-◌, Bool, true, false, if◌then◌else◌, nat_eq, List, [], ◌∷◌, Option, Some, None, take, drop, get_or}
use Rattle.std.proofs.Common.{inl, inr}
use Rattle.ptree.specs.Characters.{Characters}
use Rattle.ptree.specs.Color.{ColorValue}
use Rattle.ptree.specs.Config.{ConfigValue, is_styled}
use Rattle.ptree.specs.Drawing.{Look, look_by}
use Rattle.ptree.specs.Style.{StyleValue}
use Rattle.ptree.specs.declared.print_config.OutputKind.{OutputKind}
use Rattle.ptree.specs.declared.print_config.OutputKind.TheVariants.{Stdout, Unknown}
use Rattle.ptree.specs.declared.print_config.StyleWhen.{StyleWhen}
use Rattle.ptree.specs.declared.print_config.StyleWhen.TheVariants.{Never, Always, Tty}
use Rattle.ptree.specs.declared.style.color.Color.TheVariants.{Black, Red, Green, Yellow, Blue, Purple, Cyan, White, Fixed, RGB}
use Rattle.ptree_c.specs.declared.fields.CharactersFields.{CharactersFields}
use Rattle.ptree_c.specs.declared.fields.ColorFields.{ColorFields}
use Rattle.ptree_c.specs.declared.fields.ConfigFields.{ConfigFields}
use Rattle.ptree_c.specs.declared.fields.Part.{Part}
use Rattle.ptree_c.specs.declared.fields.StyleFields.{StyleFields}

-- the text of a part
abbrev pub part_text : List ℕ → Part → List ℕ
part_text texts p = take (p.end - p.start) (drop p.start texts)

-- what each kind of a colour means, from 0 on
abbrev pub color_kinds : List ℕ → ColorFields → List (Option ColorValue)
color_kinds texts c =
    None ∷ Some (inl Black) ∷ Some (inl Red) ∷ Some (inl Green) ∷ Some (inl Yellow) ∷ Some (inl Blue) ∷ Some (inl Purple) ∷ Some (inl Cyan) ∷ Some (inl White)
    ∷ Some (inl (Fixed c.red)) ∷ Some (inl (RGB c.red c.green c.blue)) ∷ Some (inr (part_text texts c.name)) ∷ []

-- the colour that fields mean
abbrev pub color_value : List ℕ → ColorFields → Option ColorValue
color_value texts c = get_or (color_kinds texts c) c.kind None

-- a flag is set if its number is not 0
abbrev pub is_set : ℕ → Bool
is_set n = if nat_eq n 0 then false else true

-- the style that fields mean
abbrev pub style_value : List ℕ → StyleFields → StyleValue
style_value texts s = record {
  foreground = color_value texts s.foreground;
  background = color_value texts s.background;
  bold = is_set s.bold;
  dimmed = is_set s.dimmed;
  italic = is_set s.italic;
  underline = is_set s.underline;
  blink = is_set s.blink;
  reverse = is_set s.reverse;
  hidden = is_set s.hidden;
  strikethrough = is_set s.strikethrough;
}

-- the characters that fields mean
abbrev pub characters_value : List ℕ → CharactersFields → Characters
characters_value texts c = record {
  down_and_right = part_text texts c.down_and_right;
  down = part_text texts c.down;
  turn_right = part_text texts c.turn_right;
  right = part_text texts c.right;
  empty = part_text texts c.empty;
}

-- 0 is never, 1 is always, and 2 is on a terminal; the calls refuse any other number
abbrev pub when_styled : ℕ → StyleWhen
when_styled n = if nat_eq n 0 then Never else (if nat_eq n 1 then Always else Tty)

-- standard output, unless the number is 0
abbrev pub output_kind : ℕ → OutputKind
output_kind n = if is_set n then Stdout else Unknown

-- 1 for always if this output is styled, and 0 for never if it is not
abbrev pub number_styled : ℕ → ℕ → ℕ → ℕ
number_styled number is_standard_output is_terminal =
    if is_styled (when_styled number) (output_kind is_standard_output) (is_set is_terminal) then 1 else 0

-- the configuration that fields mean
unfoldable pub config_value : List ℕ → ConfigFields → ConfigValue
config_value texts c = record {
  depth = c.depth;
  indent = c.indent;
  padding = c.padding;
  styled = when_styled c.styled;
  characters = characters_value texts c.characters;
  branch = style_value texts c.branch;
  leaf = style_value texts c.leaf;
  continued = part_text texts c.continued;
}

-- the look that fields give what is drawn into memory
abbrev pub look_of : List ℕ → ConfigFields → Look
look_of texts c = look_by (config_value texts c) Unknown false

-- the look that fields give output of a kind; the last number says whether standard output is a terminal
abbrev pub output_look : List ℕ → ConfigFields → ℕ → ℕ → Look
output_look texts c is_standard_output is_terminal = look_by (config_value texts c) (output_kind is_standard_output) (is_set is_terminal)

-- the depth that fields mean
abbrev pub depth_of : List ℕ → ConfigFields → ℕ
depth_of texts c = (config_value texts c).depth

-- The value of a configuration, with texts by their bytes, and what its fields mean.
use Rattle.std.specs.Prelude.{◌≡◌, ℕ, Bool, true, false, List, codes}
use Rattle.ptree.specs.declared.print_config.OutputKind.{OutputKind}
use Rattle.ptree.specs.declared.print_config.OutputKind.TheVariants.{Stdout, Unknown}
use Rattle.ptree.specs.declared.print_config.PrintConfig.{PrintConfig}
use Rattle.ptree.specs.declared.print_config.StyleWhen.{StyleWhen}
use Rattle.ptree.specs.declared.print_config.StyleWhen.TheVariants.{Never, Always, Tty}
use Rattle.ptree.specs.Characters.{characters_of, utf, Characters}
use Rattle.ptree.specs.Pieces.{marker_of}
use Rattle.ptree.specs.Style.{plain_style, StyleValue, style_of, plain_value}

-- whether output of a kind is styled; the last argument says whether standard output is a terminal
abbrev pub is_styled : StyleWhen → OutputKind → Bool → Bool
is_styled Never kind terminal = false
is_styled Always kind terminal = true
is_styled Tty Unknown terminal = false
is_styled Tty Stdout terminal = terminal

-- the default marker: a colon and a space
abbrev pub default_marker : List ℕ
default_marker = codes ": "

-- the default: every level, indent 3, padding 1, styled on a terminal, regular box-drawing
-- characters, dimmed branches, plain leaves and the default marker
pub record IsDefault (config : PrintConfig) : Type 0 where
  pub depth : config.depth ≡ 4294967295
  pub indent : config.indent ≡ 3
  pub padding : config.padding ≡ 1
  pub styled : config.styled ≡ Tty
  pub characters : characters_of config.characters ≡ utf
  pub branch : config.branch ≡ record plain_style { dimmed = true }
  pub leaf : config.leaf ≡ plain_style
  pub continued : marker_of config ≡ default_marker

-- the value of a configuration
pub record ConfigValue : Type 0 where
  pub depth : ℕ
  pub indent : ℕ
  pub padding : ℕ
  pub styled : StyleWhen
  pub characters : Characters
  pub branch : StyleValue
  pub leaf : StyleValue
  pub continued : List ℕ

-- the value that a configuration holds
abbrev pub config_of : PrintConfig → ConfigValue
config_of config = record {
  depth = config.depth;
  indent = config.indent;
  padding = config.padding;
  styled = config.styled;
  characters = characters_of config.characters;
  branch = style_of config.branch;
  leaf = style_of config.leaf;
  continued = marker_of config;
}

-- the default configuration
abbrev pub default_config : ConfigValue
default_config = record {
  depth = 4294967295;
  indent = 3;
  padding = 1;
  styled = Tty;
  characters = utf;
  branch = record plain_value { dimmed = true };
  leaf = plain_value;
  continued = default_marker;
}

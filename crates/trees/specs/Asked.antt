-- The configuration that the options of a call ask for.
use Rattle.std.specs.Prelude.{if◌then◌else◌, Option, Some, None, unwrap_or}
use Rattle.ptree.specs.declared.print_config.Sources.{Sources}
use Rattle.ptree.specs.declared.print_config.StyleWhen.{StyleWhen}
use Rattle.ptree.specs.declared.print_config.StyleWhen.TheVariants.{Never, Always, Tty}
use Rattle.ptree.specs.Characters.{ascii_plus, ascii_tick, utf, utf_bold, utf_dashed, utf_double}
use Rattle.ptree.specs.Config.{ConfigValue}
use Rattle.ptree.specs.Loading.{effective_config}
use Rattle.ptree.specs.Preset.{drawn_with, preset_of}
use Rattle.trees.specs.declared.command.Drawing.{Drawing}
use Rattle.trees.specs.declared.pieces.Pieces.{Pieces}
use Rattle.trees.specs.declared.pieces.Pieces.TheVariants.{Utf, UtfBold, UtfDashed, UtfDouble, Ascii, AsciiPlus, Program}
use Rattle.trees.specs.declared.screen.Screen.{Screen}
use Rattle.trees.specs.Shown.{shown_config}

-- the default configuration with these pieces
abbrev pub pieces_value : Pieces → ConfigValue
pieces_value Utf = drawn_with utf 3 1
pieces_value UtfBold = drawn_with utf_bold 3 1
pieces_value UtfDashed = drawn_with utf_dashed 3 1
pieces_value UtfDouble = drawn_with utf_double 3 1
pieces_value Ascii = drawn_with ascii_tick 3 1
pieces_value AsciiPlus = drawn_with ascii_plus 3 1
pieces_value (Program preset) = preset_of preset

-- a configuration with the characters, the indent and the padding of another one
abbrev pub with_own : ConfigValue → ConfigValue → ConfigValue
with_own own config = record config { characters = own.characters; indent = own.indent; padding = own.padding }

-- a configuration with these pieces, if there are some
abbrev pub with_pieces : Option Pieces → ConfigValue → ConfigValue
with_pieces None config = config
with_pieces (Some pieces) config = with_own (pieces_value pieces) config

-- when drawings are coloured, where `Tty` leaves it to the screen
abbrev pub styled_on : Screen → StyleWhen → StyleWhen
styled_on screen Tty = if screen.styled then Always else Never
styled_on screen Always = Always
styled_on screen Never = Never

-- a configuration with the pieces, the depth and the colours that are asked for
abbrev pub asked_config : Drawing → ConfigValue → ConfigValue
asked_config drawing config = with_pieces drawing.pieces (record config {
  depth = unwrap_or drawing.depth config.depth;
  styled = styled_on drawing.screen (unwrap_or drawing.styled config.styled);
})

-- a configuration with what is said of a drawing
abbrev pub with_drawing : Drawing → ConfigValue → ConfigValue
with_drawing drawing config = shown_config drawing.screen.is_terminal (asked_config drawing config)

-- the configuration of a drawing that is written
abbrev pub drawing_value : Sources → Drawing → ConfigValue
drawing_value sources drawing = with_drawing drawing (effective_config sources)

-- the configuration of drawings that are read: 5,000 levels, without colours
abbrev pub reading_value : Sources → Option Pieces → ConfigValue
reading_value sources pieces = with_pieces pieces (record (effective_config sources) { depth = 5000; styled = Never })

-- The tests that `==` computes: all fields are equal. Texts are compared by their bytes, wherever
-- these are in memory.
use Rattle.std.specs.Prelude.{Bool, true, false, ◌&&◌, ◌==◌, string_bytes}
use Rattle.std.specs.Option.{option_eq}
use Rattle.std.specs.Str.{bytes_eq}
use mathlib.Core.Bool.{beq}
use denote.Enum.Bare.{sameb}
use Rattle.ptree.specs.declared.print_config.PrintConfig.{PrintConfig}
use Rattle.ptree.specs.declared.style.color.Color.{Color}
use Rattle.ptree.specs.declared.style.color.Color.TheVariants.{Black, Red, Green, Yellow, Blue, Purple, Cyan, White, Fixed, RGB, Named}
use Rattle.ptree.specs.declared.style.Style.{Style}
use Rattle.ptree.specs.contracts.print_config.StyleWhen.{the_type}
use Rattle.ptree.specs.Characters.{Characters, characters_of}
use Rattle.ptree.specs.Pieces.{marker_of}
use Rattle.ptree.specs.Tree.{Forest, none, item, Tree}

-- the same characters
abbrev pub same_characters : Characters → Characters → Bool
same_characters a b =
    bytes_eq a.down_and_right b.down_and_right && bytes_eq a.down b.down && bytes_eq a.turn_right b.turn_right
    && bytes_eq a.right b.right && bytes_eq a.empty b.empty

-- the same colour
abbrev pub same_color : Color → Color → Bool
same_color (Named a) (Named b) = bytes_eq (string_bytes a) (string_bytes b)
same_color (Fixed m) (Fixed n) = m == n
same_color (RGB r g b) (RGB x y z) = r == x && g == y && b == z
same_color Black Black = true
same_color Red Red = true
same_color Green Green = true
same_color Yellow Yellow = true
same_color Blue Blue = true
same_color Purple Purple = true
same_color Cyan Cyan = true
same_color White White = true
same_color _ _ = false

-- the same style
abbrev pub same_style : Style → Style → Bool
same_style a b =
    option_eq same_color a.foreground b.foreground && option_eq same_color a.background b.background && beq a.bold b.bold
    && beq a.dimmed b.dimmed && beq a.italic b.italic && beq a.underline b.underline && beq a.blink b.blink
    && beq a.reverse b.reverse && beq a.hidden b.hidden && beq a.strikethrough b.strikethrough

-- the same configuration
abbrev pub same_config : PrintConfig → PrintConfig → Bool
same_config a b =
    a.depth == b.depth && a.indent == b.indent && a.padding == b.padding && sameb the_type a.styled b.styled
    && same_characters (characters_of a.characters) (characters_of b.characters) && same_style a.branch b.branch
    && same_style a.leaf b.leaf && bytes_eq (marker_of a) (marker_of b)

-- the same lists of trees
abbrev pub same_forest : Forest → Forest → Bool
same_forest none none = true
same_forest none (item u d s) = false
same_forest (item t c r) none = false
same_forest (item t c r) (item u d s) = bytes_eq t u && (same_forest c d && same_forest r s)

-- the same tree
abbrev pub same_tree : Tree → Tree → Bool
same_tree t u = bytes_eq t.text u.text && same_forest t.children u.children

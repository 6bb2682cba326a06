-- What the looks and the texts of private functions mean.
use Rattle.std.specs.Prelude.{◌≡◌, ℕ, Bool, true, false, Option, Some, None, List, [], ◌++◌, string_bytes}
use Rattle.ptree.specs.declared.output.look.Look.{Look as HeldLook}
use Rattle.ptree.specs.declared.read.lines.CodeTexts.{CodeTexts}
use Rattle.ptree.specs.Drawing.{Look, look_from}
use Rattle.ptree.specs.Entries.{shape_entry}
use Rattle.ptree.specs.Pieces.{Pieces, turning_piece, passing_piece, pieces_of}
use Rattle.ptree.specs.Shape.{Shape}
use Rattle.ptree.specs.Style.{StyleValue, style_of, start_codes, end_codes}

-- the look that the code's look means
abbrev pub look_of : HeldLook → Look
look_of l = look_from (style_of l.branch) (style_of l.leaf) (pieces_of l.pieces) l.marker.now

-- the piece on the own line of a root (none), or of a child by whether it is last
abbrev pub own_piece : Pieces → Option Bool → List ℕ
own_piece p None = []
own_piece p (Some last) = turning_piece p last

-- the piece on the lines below a root (none), or below a child by whether it is last
abbrev pub below_piece : Pieces → Option Bool → List ℕ
below_piece p None = []
below_piece p (Some last) = passing_piece p last

-- the piece of the own line, and the branch's end codes
abbrev pub own_text : Look → Option Bool → List ℕ
own_text look last = own_piece look.pieces last ++ end_codes look.branch

-- the piece of the lines below, the marker and the branch's end codes
abbrev pub further_text : Look → Option Bool → List ℕ
further_text look last = below_piece look.pieces last ++ look.marker ++ end_codes look.branch

-- three texts are those on the own lines of a root, a child and a last child
pub record AreOwnTexts (look : Look) (root child last_child : List ℕ) : Type 0 where
  pub root_is : root ≡ own_text look None
  pub child_is : child ≡ own_text look (Some false)
  pub last_child_is : last_child ≡ own_text look (Some true)

-- three texts are those before the further lines of a root, a child and a last child
pub record AreFurtherTexts (look : Look) (root child last_child : List ℕ) : Type 0 where
  pub root_is : root ≡ further_text look None
  pub child_is : child ≡ further_text look (Some false)
  pub last_child_is : last_child ≡ further_text look (Some true)

-- the entry of a root or of a child, after its parent's passing text
abbrev pub own_entry : Look → List ℕ → Option Bool → Shape → List ℕ
own_entry look outer last x = shape_entry look (outer ++ own_piece look.pieces last) (outer ++ below_piece look.pieces last) x

-- two texts are the codes of a style
pub record HasCodes (c : CodeTexts) (style : StyleValue) : Type 0 where
  pub start : string_bytes c.start ≡ start_codes style
  pub end : string_bytes c.end ≡ end_codes style

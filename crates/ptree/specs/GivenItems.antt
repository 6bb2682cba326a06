-- Items given one by one in the order of drawing, each with its level and whether it is its
-- parent's last child.
use Rattle.std.specs.Prelude.{◌≡◌, ◌<◌, ◌≤◌, ◌-◌, ℕ, Bool, not, nat_eq, if◌then◌else◌, Option, Some, None, List, [], ◌∷◌, ◌++◌, length, take}
use Rattle.ptree.specs.Address.{Address, IsAddressList, is_last}
use Rattle.ptree.specs.Drawing.{Look, entry_from, own_at, IsDrawing}
use Rattle.ptree.specs.Flags.{has_later}
use Rattle.ptree.specs.Looks.{own_piece, below_piece}
use Rattle.ptree.specs.Outline.{Line, outline}
use Rattle.ptree.specs.Pieces.{passing_all}
use Rattle.ptree.specs.Shape.{Shape, kids}
use Rattle.ptree.specs.Style.{painted_text}
use Rattle.ptree.specs.Tree.{Tree, height, shape_of_tree}

-- whether an item at a level is a last child; a root is no child
abbrev pub last_of : ℕ → Bool → Option Bool
last_of level last = if nat_eq level 0 then None else Some last

-- the entry of these own bytes, for a root (none) or for a child by whether it is last, below items
-- with these flags
abbrev pub entry_below : Look → List Bool → Option Bool → List ℕ → List ℕ
entry_below look above last own =
    entry_from look (passing_all look.pieces above ++ own_piece look.pieces last)
    (passing_all look.pieces above ++ below_piece look.pieces last) own

-- the entry of an item at a level that comes behind one with this path: the flags of the items from
-- level 1 on, down to itself
abbrev pub entry_behind : Look → List Bool → ℕ → Bool → List ℕ → List ℕ
entry_behind look path level last own =
    entry_below look (take (level - 1) path) (last_of level last) own

-- the path of that item
abbrev pub path_with : List Bool → ℕ → Bool → List Bool
path_with path level last = if nat_eq level 0 then [] else take (level - 1) path ++ last ∷ []

-- an item that is given: its level, whether it is a last child, and its own bytes
pub record GivenItem : Type 0 where
  pub level : ℕ
  pub last : Bool
  pub own : List ℕ

-- the entries of items, joined, where the first one comes behind an item with this path
abbrev pub given_text : Look → List Bool → List GivenItem → List ℕ
given_text look path [] = []
given_text look path (i ∷ items) =
    entry_behind look path i.level i.last i.own
    ++ given_text look (path_with path i.level i.last) items

-- an item is the one at an address: its level is the address's length
pub record IsAt (look : Look) (x : Shape) (a : Address) (i : GivenItem) : Type 0 where
  pub level : i.level ≡ length a
  pub last : 0 < length a → i.last ≡ is_last kids x a
  pub own : i.own ≡ own_at look x a

-- item k is the one at address k
abbrev pub AreAt : Look → Shape → List Address → List GivenItem → Type 0
AreAt look x [] [] = Unit {0}
AreAt look x [] (i ∷ items) = ⊥
AreAt look x (a ∷ list) [] = ⊥
AreAt look x (a ∷ list) (i ∷ items) = IsAt look x a i × AreAt look x list items

-- the entries of the items of a shape, in the order of their addresses, are its drawing, whatever
-- came before
abbrev pub DrawsItems : Look → Type 0
DrawsItems look =
    (x : Shape) (depth : ℕ) (list : List Address) (path : List Bool) (items : List GivenItem)
    → IsAddressList kids x depth list → AreAt look x list items
    → IsDrawing look x depth (given_text look path items)

-- an item with the level and the text of a line, which is a last child if none of the lines after
-- it has its level before one above it
pub record IsGivenAs (look : Look) (l : Line) (later : List Line) (i : GivenItem) : Type 0 where
  pub level : i.level ≡ l.level
  pub own : i.own ≡ painted_text look.leaf l.text
  pub last : i.last ≡ not (has_later later l.level)

-- the items are those of lines
abbrev pub AreGivenAs : Look → List Line → List GivenItem → Type 0
AreGivenAs look [] [] = Unit {0}
AreGivenAs look [] (i ∷ items) = ⊥
AreGivenAs look (l ∷ o) [] = ⊥
AreGivenAs look (l ∷ o) (i ∷ items) = IsGivenAs look l o i × AreGivenAs look o items

-- the same of a tree's items, where which are last children is told by the levels after them
abbrev pub DrawsLines : Look → Type 0
DrawsLines look =
    (t : Tree) (path : List Bool) (items : List GivenItem) (depth : ℕ)
    → height t.children ≤ depth → AreGivenAs look (outline t) items
    → IsDrawing look (shape_of_tree t) depth (given_text look path items)

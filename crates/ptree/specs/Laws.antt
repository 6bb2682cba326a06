-- Laws of address lists and of drawings.
use Rattle.std.specs.Prelude.{◌≡◌, ◌↔◌, ℕ, ◌-◌, ◌≤◌, Bool, true, false, ◌&&◌, ◌==◌, List, [], ◌∷◌, ◌++◌, length, map, filter, Some}
use Rattle.ptree.specs.Address.{Address, at, IsAddressList}
use Rattle.ptree.specs.Drawing.{Look, prefix_text, passing_text, entry_from, own_at, entry_text, IsDrawing}
use Rattle.ptree.specs.Shape.{Shape, kids, cut_shape}
use Rattle.ptree.specs.Style.{painted_text}
use Rattle.ptree.specs.Texts.{line_feed, HasNoLineFeed}
use Rattle.ptree.specs.Tree.{Tree, shape_of_tree, cut_tree}

-- exactly one list is the address list of x at this depth
abbrev pub HasOneList : Shape → ℕ → Type 0
HasOneList x depth =
    (list : List Address) × IsAddressList kids x depth list × ((other : List Address) → IsAddressList kids x depth other → other ≡ list)

-- the drawings of x at this depth are those of x cut at this depth, drawn at this or any greater
-- depth
abbrev pub HasCuts : Look → Shape → ℕ → Type 0
HasCuts look x depth =
    (deeper : ℕ) (text : List ℕ) → depth ≤ deeper → IsDrawing look x depth text ↔ IsDrawing look (cut_shape depth x) deeper text

-- the drawings of any tree at this depth are those of the tree cut at this depth, drawn at this or
-- any greater depth
abbrev pub HasTreeCuts : Look → ℕ → Type 0
HasTreeCuts look depth =
    (t : Tree) (deeper : ℕ) (text : List ℕ) → depth ≤ deeper
    → IsDrawing look (shape_of_tree t) depth text ↔ IsDrawing look (shape_of_tree (cut_tree depth t)) deeper text

-- a is a proper prefix of b
abbrev pub is_proper_prefix : Address → Address → Bool
is_proper_prefix a [] = false
is_proper_prefix [] (j ∷ b) = true
is_proper_prefix (i ∷ a) (j ∷ b) = i == j && is_proper_prefix a b

-- the entry of an address, with a text before its prefix and of the prefix of each further
-- line
abbrev pub entry_after : Look → List ℕ → Shape → Address → List ℕ
entry_after look outer x a = entry_from look (outer ++ prefix_text look x a) (outer ++ passing_text look x a) (own_at look x a)

-- the entries below each address are, in order, the entries of the item there drawn alone at the
-- remaining depth, without its root's, each after the address's passing text
abbrev pub HasSubtrees : Look → Shape → ℕ → Type 0
HasSubtrees look x depth =
    (a : Address) (y : Shape) (whole part : List Address) → at kids x a ≡ Some y → length a ≤ depth
    → IsAddressList kids x depth whole → IsAddressList kids y (depth - length a) part
    → map (entry_text look x) (filter (is_proper_prefix a) whole) ≡ map (entry_after look (passing_text look x a) y) (filter (is_proper_prefix []) part)

-- if the own bytes at an address hold no line feed, its entry is the painted prefix, the own bytes
-- unchanged and a line feed
abbrev pub HasOneLineEntries : Look → Shape → Type 0
HasOneLineEntries look x =
    (a : Address) → HasNoLineFeed (own_at look x a) → entry_text look x a ≡ painted_text look.branch (prefix_text look x a) ++ own_at look x a ++ line_feed ∷ []

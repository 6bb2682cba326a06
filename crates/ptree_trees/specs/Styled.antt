-- What items with styles of their own mean.
use Rattle.std.specs.Prelude.{◌≡◌, ℕ, List, Option, option_map, unwrap_or, string_bytes}
use Rattle.ptree.specs.Shape.{Shape, unfolded_shape}
use Rattle.ptree.specs.Style.{StyleValue, style_of, painted_text}
use Rattle.ptree.specs.Tree.{Tree, tree, forest}
use Rattle.ptree.specs.declared.style.Style.{Style}
use Rattle.ptree_trees.specs.declared.styled.StyledItem.{StyledItem, out-StyledItem}
use Rattle.ptree_trees.specs.declared.styled.StyledItem.TheOpen.{StyledItem-F}
use Rattle.ptree_trees.specs.declared.styled.StyledItem.TheFolds.{fold-StyledItem}

-- an item's text, style and children are these
pub record HasParts (t : List ℕ) (own : Option Style) (below : List StyledItem) (s : StyledItem) : Type 0 where
  pub text : string_bytes (out-StyledItem s).text ≡ t
  pub style : (out-StyledItem s).style ≡ own
  pub children : (out-StyledItem s).children.items ≡ below

-- the style of an item's text: its own if it has one, and else that of leaves
abbrev pub text_style : StyledItem → StyleValue → StyleValue
text_style s leaf = unwrap_or (option_map style_of (out-StyledItem s).style) leaf

-- what an item writes: its text, painted in that style
abbrev pub styled_own : StyledItem → StyleValue → List ℕ
styled_own s leaf = painted_text (text_style s leaf) (string_bytes (out-StyledItem s).text)

-- the shape of an item: what it writes, over its children
abbrev pub styled_shape : StyledItem → Shape
styled_shape = unfolded_shape styled_own (λ s. (out-StyledItem s).children.items)

-- the tree of an item's text over the trees of its children
abbrev pub texts_step : StyledItem-F Tree → Tree
texts_step s = tree (string_bytes s.text) (forest s.children.items)

-- the tree of the texts
abbrev pub texts_of : StyledItem → Tree
texts_of = fold-StyledItem Tree texts_step

-- The first difference of two trees, their merges, and how these are shown.
use Rattle.std.specs.Prelude.{◌≡◌, ◌≢◌, ◌⊎◌, ◌+◌, ◌-◌, ⊤, ℕ, All, Bool, true, false, if◌then◌else◌, List, [], ◌∷◌, ◌++◌, length, map, Option, Some, None, option_map, slice_get, unwrap_or, codes, decimal, string_bytes}
use Rattle.std.specs.List.{concat}
use Rattle.std.specs.Str.{bytes_eq}
use Rattle.ptree.specs.declared.print_config.OutputKind.TheVariants.{Unknown}
use Rattle.ptree.specs.declared.style.color.Color.TheVariants.{Red, Green}
use Rattle.ptree.specs.Address.{Address}
use Rattle.ptree.specs.Color.{ColorValue, color_of}
use Rattle.ptree.specs.Config.{ConfigValue, is_styled}
use Rattle.ptree.specs.Drawing.{look_by, IsDrawing}
use Rattle.ptree.specs.Shape.{Shape, unfolded_shape}
use Rattle.ptree.specs.Style.{StyleValue, plain_value, style_of, painted_text}
use Rattle.ptree.specs.Texts.{line_feed}
use Rattle.ptree.specs.Tree.{Forest, none, item, Tree}
use Rattle.ptree_trees.specs.Difference.{text_at_address, texts_above, DifferAt, AreSameBefore}
use Rattle.ptree_trees.specs.Escape.{escaped_text}
use Rattle.ptree_trees.specs.declared.styled.StyledItem.{StyledItem}
use Rattle.ptree_trees.specs.declared.styled.StyledItem.TheOpen.{StyledItem-F}
use Rattle.ptree_trees.specs.declared.styled.StyledItem.TheFolds.{fold-StyledItem}
use Rattle.trees.specs.declared.compare.Look.{Look}
use Rattle.trees.specs.declared.compare.Side.{Side}
use Rattle.trees.specs.declared.compare.Side.TheVariants.{Left, Right}
use Rattle.trees.specs.Shown.{shown_text, IsCodeOf, IsLookCode}

-- the mark before a text that is in one tree alone
abbrev pub side_mark : Side → List ℕ
side_mark Left = codes "- "
side_mark Right = codes "+ "

-- ## First differences

-- the texts above an address, from the root on: each escaped, with ` / ` behind it
abbrev pub way_text : List (List ℕ) → List ℕ
way_text above = concat (map (λ text. escaped_text text ++ codes " / ") above)

-- the line that says which child an address leads to, counted from 1, or that it is the root's
abbrev pub place_line : Address → List ℕ
place_line a = unwrap_or (option_map (λ i. codes "child " ++ (decimal (i + 1) ++ codes "\n")) (slice_get a (length a - 1))) (codes "root\n")

-- the line of a side: the text that stands there, escaped, or that nothing does
abbrev pub side_line : Side → Option (List ℕ) → List ℕ
side_line side None = side_mark side ++ codes "(nothing)\n"
side_line side (Some text) = side_mark side ++ (escaped_text text ++ codes "\n")

-- what is said of the first address at which two trees differ: the texts above it, which child it is, and what stands
-- there in each
abbrev pub TellsDifference : Tree → Tree → List ℕ → Type 0
TellsDifference t u said =
    (a : Address) × DifferAt t u a × AreSameBefore t u a
    × (said ≡ way_text (texts_above t a) ++ (place_line a ++ (side_line Left (text_at_address t a) ++ side_line Right (text_at_address u a))))

-- ## Merges

-- A merge of two forests: nothing; or a text that is in both, over the merge of what is below it, or
-- a tree that is in one alone; and then the merge of what follows.
pub data Merge : Type 0 where
  nothing : Merge
  shared : (text : List ℕ) (below rest : Merge) → Merge
  alone : (side : Side) (text : List ℕ) (children : Forest) (rest : Merge) → Merge

-- the left forest: what is only in the right one is left out
abbrev pub left_forest : Merge → Forest
left_forest nothing = none
left_forest (shared t below rest) = item t (left_forest below) (left_forest rest)
left_forest (alone Left t c rest) = item t c (left_forest rest)
left_forest (alone Right t c rest) = left_forest rest

-- the right forest: what is only in the left one is left out
abbrev pub right_forest : Merge → Forest
right_forest nothing = none
right_forest (shared t below rest) = item t (right_forest below) (right_forest rest)
right_forest (alone Left t c rest) = right_forest rest
right_forest (alone Right t c rest) = item t c (right_forest rest)

-- the texts of a forest's roots
abbrev pub root_texts : Forest → List (List ℕ)
root_texts none = []
root_texts (item t c r) = t ∷ root_texts r

-- the text that is in both and comes next, behind what is in the right one alone
abbrev pub next_shared : Merge → Option (List ℕ)
next_shared nothing = None
next_shared (shared t below rest) = Some t
next_shared (alone Left t c rest) = None
next_shared (alone Right t c rest) = next_shared rest

-- each tree of the left forest goes with the next one of the right forest that has its text: it is in one alone only if
-- none that is left has its text, and none that is passed over has it
abbrev pub TakesNext : Merge → Type 0
TakesNext nothing = ⊤
TakesNext (shared t below rest) = TakesNext below × TakesNext rest
TakesNext (alone Left t c rest) = All (λ u. u ≢ t) (root_texts (right_forest rest)) × TakesNext rest
TakesNext (alone Right t c rest) = (next_shared rest ≢ Some t) × TakesNext rest

-- ## Styled trees

-- A forest whose texts each have a style of their own, or that of leaves.
pub data StyledForest : Type 0 where
  no_items : StyledForest
  styled : (text : List ℕ) (style : Option StyleValue) (children rest : StyledForest) → StyledForest

-- such a text and what is below it
pub record StyledTree : Type 0 where
  pub text : List ℕ
  pub style : Option StyleValue
  pub children : StyledForest

-- the trees of a forest, in order
abbrev pub styled_trees : StyledForest → List StyledTree
styled_trees no_items = []
styled_trees (styled t s c rest) = record { text = t; style = s; children = c } ∷ styled_trees rest

-- the forest of trees
abbrev pub styled_forest : List StyledTree → StyledForest
styled_forest [] = no_items
styled_forest (x ∷ xs) = styled x.text x.style x.children (styled_forest xs)

-- the tree of an item's text and style over the trees of its children
abbrev pub styled_step : StyledItem-F StyledTree → StyledTree
styled_step x = record { text = string_bytes x.text; style = option_map style_of x.style; children = styled_forest x.children.items }

-- the tree that a StyledItem denotes
abbrev pub styled_tree_of : StyledItem → StyledTree
styled_tree_of = fold-StyledItem StyledTree styled_step

-- what is written of such a tree's text
abbrev pub own_text : StyledTree → StyleValue → List ℕ
own_text t leaf = painted_text (unwrap_or t.style leaf) t.text

-- the shape of such a tree
abbrev pub shape_of_styled : StyledTree → Shape
shape_of_styled = unfolded_shape own_text (λ t. styled_trees t.children)

-- ## Merges as they are shown

-- its colour
abbrev pub side_color : Side → ColorValue
side_color Left = color_of Red
side_color Right = color_of Green

-- its style, if it has one
abbrev pub side_style : Look → Side → Option StyleValue
side_style look side = if look.is_colored then Some (record plain_value { foreground = Some (side_color side) }) else None

-- such a text as it is shown
abbrev pub marked_text : Look → Side → List ℕ → List ℕ
marked_text look side text = side_mark side ++ shown_text look.is_escaped text

-- a forest that is in one tree alone, with the mark before each text
abbrev pub marked_forest : Look → Side → Forest → StyledForest
marked_forest look side none = no_items
marked_forest look side (item t c r) = styled (marked_text look side t) (side_style look side) (marked_forest look side c) (marked_forest look side r)

-- a tree that is in one tree alone
abbrev pub marked_tree : Look → Side → Tree → StyledTree
marked_tree look side t = record { text = marked_text look side t.text; style = side_style look side; children = marked_forest look side t.children }

-- a merge, with the texts that are in both as they are, and the others marked
abbrev pub shown_merge : Look → Merge → StyledForest
shown_merge look nothing = no_items
shown_merge look (shared t below rest) = styled (shown_text look.is_escaped t) None (shown_merge look below) (shown_merge look rest)
shown_merge look (alone side t c rest) = styled (marked_text look side t) (side_style look side) (marked_forest look side c) (shown_merge look rest)

-- the text of two roots: the one that both have, or both marked, in lines of their own
abbrev pub roots_text : Look → List ℕ → List ℕ → List ℕ
roots_text look t u = if bytes_eq t u then shown_text look.is_escaped t else marked_text look Left t ++ line_feed ∷ marked_text look Right u

-- what is shown is a merge of two forests
pub record ShowsMerge (look : Look) (l r : Forest) (shown : StyledForest) : Type 0 where
  pub merge : Merge
  pub left : left_forest merge ≡ l
  pub right : right_forest merge ≡ r
  pub next : TakesNext merge
  pub is : shown ≡ shown_merge look merge

-- what is shown is a merge of two trees
pub record ShowsBoth (look : Look) (t u : Tree) (shown : StyledTree) : Type 0 where
  pub text : shown.text ≡ roots_text look t.text u.text
  pub style : shown.style ≡ None
  pub below : ShowsMerge look t.children u.children shown.children

-- how two trees in one are shown: coloured if the drawing is, and for a terminal escaped
abbrev pub look_of : ConfigValue → Bool → Look
look_of config is_terminal = record { is_colored = is_styled config.styled Unknown false; is_escaped = is_terminal }

-- the bytes are the drawing of a merge of two trees under a configuration
abbrev pub IsMergeDrawing : ConfigValue → Bool → Tree → Tree → List ℕ → Type 0
IsMergeDrawing config is_terminal t u bytes =
    (shown : StyledTree) × ShowsBoth (look_of config is_terminal) t u shown × IsDrawing (look_by config Unknown false) (shape_of_styled shown) config.depth bytes

-- the bytes are what `diff` writes of two trees: the drawing of a merge of them, if all differences are asked for, or
-- else what is said of the first one
abbrev pub IsComparison : Bool → ConfigValue → Bool → Tree → Tree → List ℕ → Type 0
IsComparison true config is_terminal t u bytes = IsMergeDrawing config is_terminal t u bytes
IsComparison false config is_terminal t u bytes = TellsDifference t u bytes

-- a code of such a drawing on a terminal: one of its look, or of a text that is in one tree alone
abbrev pub IsMergeCode : ConfigValue → List ℕ → Type 0
IsMergeCode config part =
    IsLookCode (look_by config Unknown false) part
    ⊎ ((side : Side) × (style : StyleValue) × (side_style (look_of config true) side ≡ Some style) × IsCodeOf style part)

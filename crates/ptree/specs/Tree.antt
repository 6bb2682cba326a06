-- Finite trees of texts.
use Rattle.std.specs.Prelude.{ℕ, zero, suc, max, List, [], ◌∷◌, string_bytes}
use Rattle.ptree.specs.declared.item.StringItem.{StringItem}
use Rattle.ptree.specs.declared.item.StringItem.TheOpen.{StringItem-F}
use Rattle.ptree.specs.declared.item.StringItem.TheFolds.{fold-StringItem}
use Rattle.ptree.specs.Shape.{Shape, unfolded_shape}
use Rattle.ptree.specs.Style.{StyleValue, painted_text}

-- A list of trees: none, or a text with the forest below it, and the trees after it.
pub data Forest : Type 0 where
  none : Forest
  item : (text : List ℕ) (children rest : Forest) → Forest

-- a text and the trees below it
pub record Tree : Type 0 where
  pub text : List ℕ
  pub children : Forest

-- the tree of a text over a forest
abbrev pub tree : List ℕ → Forest → Tree
tree t c = record { text = t; children = c }

-- the trees of a forest, in order
abbrev pub trees : Forest → List Tree
trees none = []
trees (item t c r) = tree t c ∷ trees r

-- a list of trees, side by side
abbrev pub forest : List Tree → Forest
forest [] = none
forest (t ∷ ts) = item t.text t.children (forest ts)

-- the children of a tree
abbrev pub tree_kids : Tree → List Tree
tree_kids t = trees t.children

-- the greatest level in a forest whose roots have level 1, or 0 if it is empty
abbrev pub height : Forest → ℕ
height none = 0
height (item t c r) = max (suc (height c)) (height r)

-- the forest without what is below level d; its roots have level 1
abbrev pub cut_forest : ℕ → Forest → Forest
cut_forest d none = none
cut_forest zero (item t c r) = none
cut_forest (suc d) (item t c r) = item t (cut_forest d c) (cut_forest (suc d) r)

-- the tree without what is below level d: the children are each cut at one less, and at 0 there are
-- none
abbrev pub cut_tree : ℕ → Tree → Tree
cut_tree d t = tree t.text (cut_forest d t.children)

-- the tree of a StringItem whose children are replaced by their trees
abbrev pub tree_step : StringItem-F Tree → Tree
tree_step x = tree (string_bytes x.text) (forest x.children.items)

-- the tree that a StringItem denotes
abbrev pub tree_of : StringItem → Tree
tree_of = fold-StringItem Tree tree_step

-- the own bytes of a tree as an item: its text painted
abbrev pub tree_own : Tree → StyleValue → List ℕ
tree_own t style = painted_text style t.text

-- the shape of a tree
abbrev pub shape_of_tree : Tree → Shape
shape_of_tree t = unfolded_shape tree_own tree_kids t

-- Trees with sorted children.
use Rattle.std.specs.Prelude.{◌≡◌, ℕ, Bool, List, [], ◌∷◌, filter, ⊤}
use Rattle.std.specs.Cmp.Lexicographic.{slice_cmp}
use Rattle.std.specs.List.Sorted.{IsPermutation, IsSortedBy}
use Rattle.std.specs.Ordering.{is_lt, nat_cmp}
use Rattle.std.specs.Str.{bytes_eq}
use Rattle.ptree.specs.Tree.{Forest, none, item, Tree, tree_kids}

-- whether a tree's text is less than another's, by bytes
abbrev pub is_text_less : Tree → Tree → Bool
is_text_less t u = is_lt (slice_cmp nat_cmp t.text u.text)

-- us has the trees of ts: their texts ascend, and those with one text stand in the order that they
-- had
pub record IsSortOf (ts us : List Tree) : Type 0 where
  pub permutation : IsPermutation ts us
  pub ascending : IsSortedBy is_text_less us
  pub stable : (text : List ℕ)
      → filter (λ t. bytes_eq t.text text) us ≡ filter (λ t. bytes_eq t.text text) ts

-- the trees of a list are those of the forest, each with its children sorted, and so on below
abbrev pub AreSorted : Forest → List Tree → Type 0
AreSorted none [] = ⊤
AreSorted none (u ∷ us) = ⊥
AreSorted (item t c r) [] = ⊥
AreSorted (item t c r) (u ∷ us) =
    (u.text ≡ t) × ((ts : List Tree) × AreSorted c ts × IsSortOf ts (tree_kids u)) × AreSorted r us

-- u is the tree t with its children sorted, and so on below
abbrev pub IsSortedTree : Tree → Tree → Type 0
IsSortedTree t u =
    (u.text ≡ t.text) × ((ts : List Tree) × AreSorted t.children ts × IsSortOf ts (tree_kids u))

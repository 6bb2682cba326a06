-- The items of a tree as they are gathered.
use Rattle.std.specs.Prelude.{ℕ, suc, List, [], ◌∷◌, ◌++◌}
use Rattle.ptree.specs.Tree.{Forest, none, item, Tree, tree}

-- the trees in a forest whose roots have level n, and all below them, in order, each with its level
abbrev pub subtrees_at : ℕ → Forest → List (ℕ × Tree)
subtrees_at n none = []
subtrees_at n (item t c r) = (n, tree t c) ∷ (subtrees_at (suc n) c ++ subtrees_at n r)

-- the tree itself and all trees below it, in order, each with its level
abbrev pub subtrees : Tree → List (ℕ × Tree)
subtrees t = (0, t) ∷ subtrees_at 1 t.children

-- Documents as trees: the items of lists, one by one.
use Rattle.std.proofs.Common.{List, [], ◌++◌, append-nil, subst}
use Rattle.ptree.specs.Tree.{Tree}

-- with trees of what is left, the trees are those of all
pub record HasTreesBut {A : Type 0} (R : A → List Tree → Type 0) (all left : A) (made : List Tree) : Type 0 where
  pub go : (rest : List Tree) → R left rest → R all (made ++ rest)

-- nothing is left
pub all_trees : {A : Type 0} (R : A → List Tree → Type 0) (all left : A) (made : List Tree) → HasTreesBut R all left made → R left [] → R all made
all_trees R all left made h none = subst (R all) (append-nil made) (h.go [] none)

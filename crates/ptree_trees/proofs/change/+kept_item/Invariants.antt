use Rattle.std.proofs.Common.{◌≡◌, ◌++◌, ℕ, Bool, List, map, drop}
use Rattle.ptree.specs.Tree.{tree_of, trees}
use Rattle.ptree_trees.specs.Change.{Tests, kept_forest}
use Rattle.ptree_trees.proofs.Changes.{kept_trees}
use Rattle.ptree_trees.proofs.change.+kept_item.Given as goal

-- what is kept of the children so far, and of those that are left
abbrev pub invariant-loop-child : goal.invariant-loop-child
invariant-loop-child g l =
    (test : List ℕ → Bool) → Tests g.F.Fn l.passes test
    → map tree_of l.children.items ++ kept_trees test (map tree_of (drop l.child-index l.child-items)) ≡ trees (kept_forest test (tree_of l.item).children)

use Rattle.std.proofs.Common.{◌≡◌, drop, map}
use Rattle.ptree.specs.Equality.{same_forest}
use Rattle.ptree.specs.Tree.{tree_of, forest}
use Rattle.ptree.proofs.item.tree.+is_same.Given as goal

-- the rows of children are equal where those that are left are
abbrev pub invariant-loop-child : goal.invariant-loop-child
invariant-loop-child l =
    same_forest (forest (map tree_of (drop l.child-index l.child-items))) (forest (map tree_of l.rest))
    ≡ same_forest (tree_of l.a).children (tree_of l.b).children

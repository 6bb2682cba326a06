use Rattle.std.proofs.Common.{map, take}
use Rattle.ptree.specs.Tree.{tree_of, forest}
use Rattle.ptree_trees.specs.Sort.{AreSorted}
use Rattle.ptree_trees.proofs.change.sort.+sorted.Given as goal

-- the children so far are sorted
abbrev pub invariant-loop-child : goal.invariant-loop-child
invariant-loop-child l = AreSorted (forest (map tree_of (take l.child-index l.child-items))) (map tree_of l.children.items)

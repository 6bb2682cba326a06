use Rattle.ptree.specs.Tree.{tree_of}
use Rattle.ptree_trees.proofs.Differences.{AreSameTo}
use Rattle.ptree_trees.proofs.difference.+find_difference.Given as goal

-- the texts are the same, and the children so far
abbrev pub invariant-loop-i : goal.invariant-loop-i
invariant-loop-i l = AreSameTo (tree_of l.left) (tree_of l.right) l.i

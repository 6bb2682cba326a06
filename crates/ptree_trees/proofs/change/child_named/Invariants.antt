use Rattle.std.proofs.Common.{◌≡◌, map, drop}
use Rattle.ptree.specs.Tree.{tree_of, trees, forest, tree_kids}
use Rattle.ptree_trees.specs.Change.{first_named}
use Rattle.ptree_trees.proofs.change.child_named.Given as goal

-- the first with the text is among the children that are left
abbrev pub invariant-loop-child : goal.invariant-loop-child
invariant-loop-child l = first_named l.name (trees (forest (map tree_of (drop l.child-index l.child-items)))) ≡ first_named l.name (tree_kids (tree_of l.item))

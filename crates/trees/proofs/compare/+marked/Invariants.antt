use Rattle.trees.proofs.Common.{◌≡◌, map, take, tree_of}
use Rattle.trees.specs.Merging.{styled_tree_of, marked_tree}
use Rattle.trees.proofs.compare.+marked.Given as goal

-- the children so far are marked
abbrev pub invariant-loop-child : goal.invariant-loop-child
invariant-loop-child l = map styled_tree_of l.children.items ≡ map (marked_tree l.look l.side) (map tree_of (take l.child-index l.child-items))

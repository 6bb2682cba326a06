use Rattle.trees.proofs.Common.{◌≡◌, ◌++◌, map, take, tree_of}
use Rattle.trees.specs.declared.compare.Side.TheVariants.{Right}
use Rattle.trees.specs.Merging.{styled_tree_of, marked_tree}
use Rattle.trees.proofs.compare.push_right.Given as goal

-- the items so far are behind what was there
abbrev pub invariant-loop-item : goal.invariant-loop-item
invariant-loop-item l = map styled_tree_of l.made.items ≡ map styled_tree_of l.fn.made.items ++ map (marked_tree l.look Right) (map tree_of (take l.item-index l.items))

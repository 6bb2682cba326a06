use Rattle.trees.proofs.Common.{◌≡◌, ◌≤◌, length, map, drop, tree_of}
use Rattle.trees.specs.Merging.{styled_tree_of}
use Rattle.trees.proofs.Merges.{ShowsBut}
use Rattle.trees.proofs.compare.+both.Given as goal

-- what is made shows all but what is left
abbrev pub invariant-both_children-loop-child : goal.invariant-both_children-loop-child
invariant-both_children-loop-child l = record {
  within : l.taken ≤ length l.others;
  items : l.places.items.now ≡ l.others;
  shows : ShowsBut l.look (map tree_of l.child-items) (map tree_of l.others) (map tree_of (drop l.child-index l.child-items)) (map tree_of (drop l.taken l.others)) (map styled_tree_of l.made.items);
}

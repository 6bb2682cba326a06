use Rattle.std.proofs.Common.{◌≡◌, map, take}
use Rattle.ptree.specs.Tree.{tree_of, forest}
use Rattle.ptree_trees.specs.Paths.{names_of, tops}
use Rattle.ptree_trees.specs.PathGroups.{group_names}
use Rattle.ptree_trees.proofs.PathLoops.{whole}
use Rattle.ptree_trees.proofs.PathTrees.{weight, HasTails}
use Rattle.ptree_trees.proofs.paths.+items_below.Given as goal

-- the number of names
abbrev pub decreases-items_below : goal.decreases-items_below
decreases-items_below l = weight (names_of l.separator l.paths.now)

-- the items so far are those of the groups so far, each with all that is below it
abbrev pub invariant-loop-group : goal.invariant-loop-group
invariant-loop-group l = record {
  names : tops (forest (map tree_of l.items.items)) ≡ group_names (map (whole l.start) (take l.group-index l.group-items));
  tails : HasTails l.is_sorted (forest (map tree_of l.items.items)) (names_of l.separator l.paths);
}

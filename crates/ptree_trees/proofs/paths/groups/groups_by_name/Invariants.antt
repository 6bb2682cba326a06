use Rattle.std.proofs.Common.{map, take}
use Rattle.ptree_trees.specs.PathGroups.{keyed_cut, group_of, IsGrouping}
use Rattle.ptree_trees.proofs.paths.groups.groups_by_name.Given as goal

-- the groups are those of the paths so far
abbrev pub invariant-loop-path : goal.invariant-loop-path
invariant-loop-path l = IsGrouping (map keyed_cut (take l.path-index l.path-items)) (map group_of l.groups.items)

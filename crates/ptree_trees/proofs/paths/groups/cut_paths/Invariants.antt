use Rattle.std.proofs.Common.{map, take}
use Rattle.ptree_trees.specs.PathGroups.{cut_of, AreCuts}
use Rattle.ptree_trees.specs.SharedStart.{names_behind}
use Rattle.ptree_trees.proofs.paths.groups.cut_paths.Given as goal

-- the paths so far are cut
abbrev pub invariant-loop-path : goal.invariant-loop-path
invariant-loop-path l = AreCuts l.separator 0 (map cut_of l.cuts.items) (names_behind l.separator l.start (take l.path-index l.paths))

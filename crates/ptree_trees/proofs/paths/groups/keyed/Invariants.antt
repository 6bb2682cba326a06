use Rattle.std.proofs.Common.{◌≡◌, map, take}
use Rattle.ptree_trees.specs.PathGroups.{cut_of, keyed_cut}
use Rattle.ptree_trees.proofs.paths.groups.keyed.Given as goal

-- the keys so far are those of the paths so far
abbrev pub invariant-loop-cut : goal.invariant-loop-cut
invariant-loop-cut l = map keyed_cut l.keyed.items ≡ map cut_of (take l.cut-index l.cuts)

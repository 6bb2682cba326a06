use Rattle.std.proofs.Common.{◌↔◌, Any}
use Rattle.ptree.specs.Occurrence.{occurrence_kids, trees_in}
use Rattle.trees.specs.Levels.{HasLevel}
use Rattle.trees.proofs.levels.+has_level.Given as goal

-- the level is below one of the trees exactly if it is below one of those that are left
abbrev pub invariant-loop-left : goal.invariant-loop-left
invariant-loop-left l = Any (HasLevel occurrence_kids l.level) (trees_in l.trees l.places) ↔ Any (HasLevel occurrence_kids l.level) (trees_in l.left l.rest)

abbrev pub decreases-loop-left : goal.decreases-loop-left
decreases-loop-left l = l.left

abbrev pub decreases-has_level : goal.decreases-has_level
decreases-has_level l = l.level

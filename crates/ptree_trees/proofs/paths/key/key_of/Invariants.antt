use Rattle.std.proofs.Common.{◌≡◌}
use Rattle.ptree_trees.specs.CutName.{front_number}
use Rattle.ptree_trees.proofs.paths.key.key_of.Given as goal

abbrev pub invariant-loop-i : goal.invariant-loop-i
invariant-loop-i l = l.key ≡ front_number l.i l.name

use Rattle.std.proofs.Common.{◌≡◌, ◌≢◌, All, take}
use Rattle.ptree_trees.proofs.paths.cut.name_end.Given as goal

abbrev pub invariant-loop-b : goal.invariant-loop-b
invariant-loop-b l = (l.end ≡ l.b-index) × All (λ b. b ≢ l.separator) (take l.b-index l.path)

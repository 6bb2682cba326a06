use Rattle.std.proofs.Common.{length, ◌-◌, ◌≡◌, ◌≤◌, take}
use Rattle.ptree_trees.proofs.paths.start.same_bytes.Given as goal

-- the bytes so far are the same
abbrev pub invariant-loop-end : goal.invariant-loop-end
invariant-loop-end l = record { bound : l.end ≤ length l.a; same : take l.end l.a ≡ take l.end l.b }

-- the number of bytes left
abbrev pub decreases-loop-end : goal.decreases-loop-end
decreases-loop-end l = length l.a - l.end

use Rattle.std.proofs.Common.{map, take, All}
use Rattle.trees.specs.Depending.{ends, IsWithin}
use Rattle.trees.proofs.deps.are_within.Given as goal

-- the needs so far are within
abbrev pub invariant-loop-need : goal.invariant-loop-need
invariant-loop-need l = All (IsWithin l.count) (map ends (take l.need-index l.need-items))

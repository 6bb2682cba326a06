use Rattle.std.proofs.Common.{map, take}
use Rattle.trees.specs.Depending.{ends}
use Rattle.trees.specs.DependingParts.{HasNeeds, IsUnlinked}
use Rattle.trees.proofs.deps.network.push_needs.Given as goal

-- the edges of the needs so far
abbrev pub invariant-loop-need : goal.invariant-loop-need
invariant-loop-need l = IsUnlinked l.fn.network → HasNeeds l.fn.network (map ends (take l.need-index l.needs)) l.network

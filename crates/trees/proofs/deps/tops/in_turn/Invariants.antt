use Rattle.std.proofs.Common.{take}
use Rattle.trees.proofs.Marks.{AreMarked, AreMarkedUpTo}
use Rattle.trees.proofs.deps.tops.in_turn.Given as goal

-- the nodes so far
abbrev pub invariant-loop-is_needed : goal.invariant-loop-is_needed
invariant-loop-is_needed l = AreMarked l.needed (take l.is_needed-index l.is_needed-items) l.nodes.items

abbrev pub invariant-loop-i : goal.invariant-loop-i
invariant-loop-i l = AreMarkedUpTo l.needed (take l.is_needed-index l.is_needed-items) l.is_needed l.i l.nodes.items

use Rattle.std.proofs.Common.{ℕ, map, Bor}
use Rattle.trees.proofs.Marks.{MarksAll}
use Rattle.trees.proofs.deps.tops.mark_needs.Given as goal

-- the needs so far are marked
abbrev pub invariant-loop-to : goal.invariant-loop-to
invariant-loop-to l = MarksAll (map (λ (e : Bor (ℕ × ℕ)). e.now.1) l.yielded) l.fn.reached l.reached l.fn.left.items l.left.items

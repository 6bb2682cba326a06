use Rattle.std.proofs.Common.{◌-◌, ◌≤◌}
use Rattle.ptree.proofs.print_config.file.wrong_line.Given as goal

-- the answer is at most the reported line
abbrev pub invariant-loop-alloc : goal.invariant-loop-alloc
invariant-loop-alloc l = l.wrong ≤ l.fn.line

abbrev pub decreases-loop-alloc : goal.decreases-loop-alloc
decreases-loop-alloc l = l.wrong - l.right

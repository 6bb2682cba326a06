use Rattle.std.proofs.Common.{◌≤◌}
use Rattle.ptree.proofs.print_config.file.search_back.Given as goal

-- the lines are at most the reported one
abbrev pub invariant-loop-right : goal.invariant-loop-right
invariant-loop-right l = (l.right ≤ l.fn.line) × (l.wrong ≤ l.fn.line)

abbrev pub decreases-loop-right : goal.decreases-loop-right
decreases-loop-right l = l.right

use Rattle.trees.proofs.Common.{◌≡◌, false, take, list_any}
use Rattle.trees.specs.ListingParts.{is_wrong_line}
use Rattle.trees.proofs.lists.check_lines.Given as goal

-- the paths so far are right
abbrev pub invariant-loop-i : goal.invariant-loop-i
invariant-loop-i l = list_any (λ x. is_wrong_line l.ends_in_zero l.others x.now) (take l.i l.lines) ≡ false

use Rattle.std.proofs.Common.{◌+◌, ◌≡◌, ◌≤◌, ◌++◌, drop, length, decimal}
use Rattle.ptree.proofs.value.text.write_digits.Given as goal

-- the digits that are left, followed by those that were written
abbrev pub invariant-loop-left : goal.invariant-loop-left
invariant-loop-left l = record {
  digits : decimal l.n ≡ decimal l.left ++ drop l.start l.room;
  start : l.start + length (decimal l.n) ≡ 20 + length (decimal l.left);
  fits : length (decimal l.left) ≤ l.start;
  room : length l.room ≡ 20;
}

abbrev pub decreases-loop-left : goal.decreases-loop-left
decreases-loop-left l = l.left

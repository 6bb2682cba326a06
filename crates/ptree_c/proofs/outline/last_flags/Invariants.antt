use Rattle.std.proofs.Common.{◌≡◌, ◌≤◌, ◌+◌, length, drop}
use Rattle.ptree_c.specs.Outlines.{AreLater, AreLastFlags}
use Rattle.ptree_c.proofs.outline.last_flags.Given as goal

-- the flags of the last items are there, and so is what is known of their levels
abbrev pub invariant-loop-place : goal.invariant-loop-place
invariant-loop-place l = record {
  within : l.place ≤ length l.items;
  long : length l.flags.items ≡ length l.items;
  room : length l.later.items ≡ l.fn.deepest + 2;
  later : AreLater l.later.items (drop l.place l.items);
  flags : AreLastFlags (drop l.place l.items) (drop l.place l.flags.items);
}

abbrev pub decreases-loop-place : goal.decreases-loop-place
decreases-loop-place l = l.place

use Rattle.std.proofs.Common.{◌≢◌, ℕ, ◌+◌, ◌≤◌, ◌<◌, length, get_or}
use Rattle.ptree.proofs.output.feeds.holds_line_feed.Given as goal

-- there is no line feed behind the vector at the place
abbrev pub invariant-loop-place : goal.invariant-loop-place
invariant-loop-place g l = record {
  within : l.place + g.row.N ≤ length l.bytes;
  behind : (k : ℕ) → l.place + g.row.N ≤ k → k < length l.bytes → get_or l.bytes k 0 ≢ 10;
}

abbrev pub decreases-loop-place : goal.decreases-loop-place
decreases-loop-place g l = l.place

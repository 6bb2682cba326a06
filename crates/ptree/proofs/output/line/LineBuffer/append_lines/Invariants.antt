use Rattle.std.proofs.Common.{◌≡◌, ◌≢◌, ℕ, ◌≤◌, ◌<◌, ◌++◌, length, get_or, take, drop}
use Rattle.ptree.specs.Drawing.{with_inserted}
use Rattle.ptree.specs.Line.{line_bytes}
use Rattle.ptree.proofs.output.line.LineBuffer.append_lines.Given as goal

-- what is put, with what is left, is the whole; and the first line feed that is left
abbrev pub invariant-loop-end : goal.invariant-loop-end
invariant-loop-end l =
    let spread = with_inserted (take l.width l.bytes ++ l.further) in
    record {
      put : line_bytes l.self ++ spread l.rest ≡ line_bytes l.fn.self ++ (take l.start l.bytes ++ spread (drop l.start l.bytes));
      shorter : length l.rest ≤ length l.bytes;
      within : l.end ≤ length l.rest;
      before : (k : ℕ) → k < l.end → get_or l.rest k 0 ≢ 10;
      at : l.end < length l.rest → get_or l.rest l.end 0 ≡ 10;
    }

abbrev pub decreases-loop-end : goal.decreases-loop-end
decreases-loop-end l = length l.rest

use Rattle.std.proofs.Common.{◌≡◌, length, map, string_bytes}
use Rattle.ptree.specs.Continuation.{IsFollowedBy}
use Rattle.ptree.specs.Looks.{look_of}
use Rattle.ptree.proofs.Reading.OpenDrawings.{AreFirstFlags}
use Rattle.ptree.proofs.read.follow.flags_of_lines.Given as goal

-- the flags so far are those of the first lines
abbrev pub invariant-loop-line : goal.invariant-loop-line
invariant-loop-line l = (length l.flags.items ≡ l.line-index) × AreFirstFlags (IsFollowedBy (look_of l.frame.look) l.frame.depth l.text) (map string_bytes l.lines) l.flags.items

use Rattle.std.proofs.Common.{length}
use denote.Text.{Utf8}
use denote.Shadow.{shadow}
use Rattle.ptree.specs.Looks.{look_of}
use Rattle.ptree.proofs.Reading.OpenDrawings.{ReadsOn}
use Rattle.ptree.proofs.read.follow.OpenDrawing.read.Given as goal

-- the rest is left, and what is before it was read
abbrev pub invariant-loop-rest : goal.invariant-loop-rest
invariant-loop-rest l = shadow (Utf8 l.rest) × ReadsOn (look_of l.frame.look) l.frame.depth l.lines l.rest l.initial.self l.self

abbrev pub decreases-loop-rest : goal.decreases-loop-rest
decreases-loop-rest l = length l.rest

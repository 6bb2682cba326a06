use Rattle.std.proofs.Common.{length}
use denote.Text.{Utf8}
use denote.Shadow.{shadow}
use Rattle.ptree_trees.proofs.IndentedReading.{IsStage}
use Rattle.ptree_trees.proofs.indented.read_lines.Given as goal

-- the lines so far have been read
abbrev pub invariant-loop-line : goal.invariant-loop-line
invariant-loop-line l =
    shadow (Utf8 l.rest) × IsStage l.form l.text l.builder l.rest l.lines

abbrev pub decreases-loop-line : goal.decreases-loop-line
decreases-loop-line l = length l.rest

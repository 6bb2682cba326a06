use denote.Text.{Utf8}
use denote.Shadow.{shadow}
use Rattle.ptree.specs.Pieces.{pieces_of}
use Rattle.trees.proofs.DeepLines.{PassesTo}
use Rattle.trees.proofs.expected.has_more_pieces.Given as goal

-- as many passing pieces are before the rest
abbrev pub invariant-loop-level : goal.invariant-loop-level
invariant-loop-level l = shadow (Utf8 l.rest) × PassesTo (pieces_of l.indent) l.line l._level l.rest

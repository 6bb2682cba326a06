use Rattle.trees.proofs.Common.{map, string_bytes, pieces_of}
use denote.Text.{Utf8}
use denote.Shadow.{shadow}
use Rattle.trees.proofs.Fronts.{AreFrontsBelow}
use Rattle.trees.proofs.FrontsTried.{HasTried}
use Rattle.trees.proofs.expected.fronts.Given as goal

-- the passing pieces so far are those of other levels than the next ones, and none of these is missing
abbrev pub invariant-loop-passed : goal.invariant-loop-passed
invariant-loop-passed l =
    shadow (Utf8 l.rest) × AreFrontsBelow (pieces_of l.indent) (map string_bytes l.fronts.items) (string_bytes l.front)
    × HasTried (pieces_of l.indent) l.line l.passed l.passed (map string_bytes l.fronts.items) (string_bytes l.front) l.rest

use Rattle.std.proofs.Common.{Bool, true, false, List, ℕ}
use Rattle.ptree.specs.Pieces.{Pieces, turning_piece, passing_piece, pieces_of}
use Rattle.ptree.specs.Readable.{ArePrefixFree}
use Rattle.ptree.proofs.output.indent.Indent.is_marker_apart.Goals as goal

each : (p : Pieces) (marker : List ℕ) → ArePrefixFree marker (turning_piece p false) × ArePrefixFree marker (passing_piece p false) → ArePrefixFree marker (turning_piece p true) × ArePrefixFree marker (passing_piece p true)
    → (last : Bool) → ArePrefixFree marker (turning_piece p last) × ArePrefixFree marker (passing_piece p last)
each p marker h g false = h
each p marker h g true = g

pub returns-then-is_apart_from : goal.returns-then-is_apart_from
returns-then-is_apart_from c =
    let first = rw (c.turning.ensures, c.passing.ensures) at c.is_apart_from.ensures in
    let second = rw (c.turning-then-is_apart_from.ensures, c.passing-then-is_apart_from.ensures) at c.is_apart_from-then-is_apart_from.ensures in
    (λ yes. each (pieces_of c.args.self.now) c.args.marker.now (first.0 c.if-is_apart_from.true) (second.0 yes), λ h. second.1 (h true))

pub returns-else-is_apart_from : goal.returns-else-is_apart_from
returns-else-is_apart_from c =
    let first = rw (c.turning.ensures, c.passing.ensures) at c.is_apart_from.ensures in
    (λ yes. absurd (let no = c.if-is_apart_from.false in cc), λ h. first.1 (h false))

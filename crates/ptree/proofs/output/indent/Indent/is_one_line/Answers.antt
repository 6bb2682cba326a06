use Rattle.std.proofs.Common.{true, false}
use Rattle.ptree.specs.Pieces.{pieces_of}
use Rattle.ptree.proofs.Pieces.PieceTests.{one_line_each}
use Rattle.ptree.proofs.output.indent.Indent.is_one_line.Goals as goal

pub returns-then-are_one_line : goal.returns-then-are_one_line
returns-then-are_one_line c =
    let turning = (rw (c.turning.ensures, c.turning-2.ensures) at c.are_one_line.ensures).0 c.if-are_one_line.true in
    let passing = rw (c.passing.ensures, c.passing-then-are_one_line.ensures) at c.are_one_line-then-are_one_line.ensures in (
      λ yes. one_line_each (pieces_of c.args.self.now) (record { turning = turning; passing = passing.0 yes }),
      λ all. passing.1 ((all false).1, (all true).1),
    )

pub returns-else-are_one_line : goal.returns-else-are_one_line
returns-else-are_one_line c =
    let turning = rw (c.turning.ensures, c.turning-2.ensures) at c.are_one_line.ensures in (
      λ yes. absurd (let no = c.if-are_one_line.false in cc),
      λ all. turning.1 ((all false).0, (all true).0),
    )

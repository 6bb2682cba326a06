use Rattle.std.proofs.Common.{true, false}
use Rattle.ptree.specs.Pieces.{pieces_of}
use Rattle.ptree.proofs.Pieces.PieceTests.{kinds_apart_each}
use Rattle.ptree.proofs.output.indent.Indent.has_kinds_apart.Goals as goal

pub returns-then-is_apart_from : goal.returns-then-is_apart_from
returns-then-is_apart_from c =
    let regular = (rw (c.turning.ensures, c.passing-child.ensures, c.passing-last_child.ensures) at c.is_apart_from.ensures).0 c.if-is_apart_from.true in
    let last = rw (c.turning-then-is_apart_from.ensures, c.passing-child.ensures, c.passing-last_child.ensures) at c.is_apart_from-then-is_apart_from.ensures in (
      λ yes. kinds_apart_each (pieces_of c.args.self.now) (record { regular = regular; last_regular = last.0 yes }),
      λ all. last.1 (all true false, all true true),
    )

pub returns-else-is_apart_from : goal.returns-else-is_apart_from
returns-else-is_apart_from c =
    let regular = rw (c.turning.ensures, c.passing-child.ensures, c.passing-last_child.ensures) at c.is_apart_from.ensures in (
      λ yes. absurd (let no = c.if-is_apart_from.false in cc),
      λ all. regular.1 (all false false, all false true),
    )

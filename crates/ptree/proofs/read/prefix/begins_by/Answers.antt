use Rattle.std.proofs.Common.{◌-◌, length, arith}
use Rattle.ptree.proofs.Reading.PrefixVectors.{begins_from_ends, begins_word}
use Rattle.ptree.proofs.read.prefix.begins_by.Goals as goal

pub returns-then-same_at : goal.returns-then-same_at
returns-then-same_at g c =
    let prefix = c.args.prefix.now in
    let text = c.args.text.now in
    let n = g.row.N in (
      λ yes. begins_from_ends prefix text n n c.requires.high c.requires.room (c.same_at.ensures.0 c.if-same_at.true) (c.same_at-then-same_at.ensures.0 yes),
      λ h. c.same_at-then-same_at.ensures.1 (begins_word prefix text (length prefix - n) n h (omega (arith, c.requires.low))),
    )

use Rattle.std.proofs.Common.{arith}
use Rattle.ptree.proofs.Values.NumberTexts.{PAIRS_at, pair_written}
use Rattle.ptree.proofs.value.text.write_pair.Goals as goal

pub returns : goal.returns
returns c =
    let digits = PAIRS_at c.args.pair c.requires.pair in
    rw (digits.0, digits.1) (pair_written c.args.room.now c.args.end _ _ c.requires.low (omega arith))

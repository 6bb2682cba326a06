use Rattle.std.proofs.Common.{refl}
use Rattle.trees.proofs.OutlineTexts.{blank_part}
use Rattle.trees.proofs.words.parse_unit.Goals as goal

pub returns-in-Some-get : goal.returns-in-Some-get
returns-in-Some-get c =
    let part = c.in-Some-get.ensures.cases in
    blank_part _ c.in-Some-get.unit.now _ c.in-Some.n refl c.if-n-gt0.true part.0 part.1

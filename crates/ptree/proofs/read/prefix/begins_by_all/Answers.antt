use Rattle.std.proofs.Common.{◌-◌, length, sym, ◌∙◌, arith}
use Rattle.std.proofs.lemmas.Bool.{false≢true}
use Rattle.ptree.proofs.Reading.PrefixVectors.{begins_from_ends, begins_word, take_chunk}
use Rattle.ptree.proofs.read.prefix.begins_by_all.Goals as goal

pub loop-place-2-preserved : goal.loop-place-2-preserved
loop-place-2-preserved c = grind (arith, take_chunk)

pub returns-then-not-same_at : goal.returns-then-not-same_at
returns-then-not-same_at c =
    let more = c.loop-place-2-test.true in (
      λ yes. absurd (false≢true yes),
      λ h. absurd (false≢true (sym c.if-not-same_at.true ∙ c.same_at.ensures.1 (begins_word c.args.prefix.now c.args.text.now c.loop-place-2.place 64 h (omega (arith, more))))),
    )

pub returns : goal.returns
returns c =
    let prefix = c.args.prefix.now in
    let text = c.args.text.now in
    let rest = c.loop-place-2-test.false in (
      λ yes. begins_from_ends prefix text c.loop-place-2.place 64 (omega (arith, rest)) c.requires.room c.loop-place-2.invariant.1 (c.same_at-2.ensures.0 yes),
      λ h. c.same_at-2.ensures.1 (begins_word prefix text (length prefix - 64) 64 h (omega (arith, c.requires.low))),
    )

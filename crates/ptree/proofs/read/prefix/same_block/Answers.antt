use Rattle.std.proofs.Common.{◌+◌, arith}
use Rattle.std.proofs.lemmas.Bool.{and_from, and_parts}
use Rattle.ptree.proofs.Reading.PrefixVectors.{begins_word, take_four_chunks}
use Rattle.ptree.proofs.read.prefix.same_block.Goals as goal

pub returns-clause-same : goal.returns-clause-same
returns-clause-same c = λ yes same.
    let three = and_parts _ _ yes in
    let two = and_parts _ _ three.0 in
    let one = and_parts _ _ two.0 in
    take_four_chunks c.args.place c.args.text.now c.args.prefix.now same (c.same_at.ensures.0 one.0) (c.same_at-2.ensures.0 one.1) (c.same_at-3.ensures.0 two.1) (c.same_at-4.ensures.0 three.1)

pub returns-clause-prefix : goal.returns-clause-prefix
returns-clause-prefix c = λ h.
    let prefix = c.args.prefix.now in
    let text = c.args.text.now in
    let place = c.args.place in
    let room = c.requires.block in
    and_from _ _ (and_from _ _ (and_from _ _ (c.same_at.ensures.1 (begins_word prefix text place 64 h (omega arith))) (c.same_at-2.ensures.1 (begins_word prefix text (place + 64) 64 h (omega arith))))
    (c.same_at-3.ensures.1 (begins_word prefix text (place + 128) 64 h (omega arith)))) (c.same_at-4.ensures.1 (begins_word prefix text (place + 192) 64 h (omega arith)))

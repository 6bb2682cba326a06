use Rattle.std.proofs.Common.{◌≡◌, ◌+◌, ◌-◌, arith, to_z-of_z}
use Rattle.std.proofs.lemmas.Fmt.{length-decimal-le}
use Rattle.std.proofs.lemmas.List.{drop-set}
use Rattle.ptree.proofs.Values.NumberTexts.{minus_first}
use Rattle.ptree.proofs.value.text.write_signed.Goals as goal

pub overflow_sub-room : goal.overflow_sub-room
overflow_sub-room c = omega (arith, length-decimal-le 19 c.unsigned_abs.result (omega arith) (omega arith) (omega arith))

pub overflow_sub-result : goal.overflow_sub-result
overflow_sub-result c = omega (arith, length-decimal-le 19 c.unsigned_abs.result (omega arith) (omega arith) (omega arith))

pub returns-clause-number : goal.returns-clause-number
returns-clause-number c =
    let w = c.write_digits-start in
    let long = length-decimal-le 19 c.unsigned_abs.result (omega arith) (omega arith) (omega arith) in
    let at : w.result - 1 + 1 ≡ w.result = omega arith in
    let back = to_z-of_z c.ranges.n in
    rw (drop-set w.new.room (w.result - 1) 45 (omega arith), at, w.ensures.digits, c.unsigned_abs.ensures.value, back) (minus_first c.args.n (rw back at c.if-n-ge0.false))

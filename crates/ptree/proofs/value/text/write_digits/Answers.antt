use Rattle.std.proofs.Common.{arith}
use Rattle.std.proofs.lemmas.Fmt.{length-decimal-le, decimal_nonempty}
use Rattle.std.proofs.lemmas.Grind.{common_steps}
use Rattle.ptree.proofs.Values.NumberTexts.{two_digits_more, first_two, first_digit, length-digit, digit_counts}
use Rattle.ptree.proofs.value.text.write_digits.Goals as goal

pub loop-left-init : goal.loop-left-init
loop-left-init c = record {
  digits = grind (arith, common_steps);
  start = omega arith;
  fits = length-decimal-le 20 c.args.n (omega arith) (omega arith) (omega arith);
  room = omega arith;
}

pub loop-left-preserved : goal.loop-left-preserved
loop-left-preserved c =
    let l = c.loop-left in
    record {
      digits = two_digits_more c.args.n l.left _ _ c.loop-left-test.true (omega arith) l.invariant.digits c.write_pair.ensures;
      start = grind (arith, digit_counts);
      fits = grind (arith, digit_counts);
      room = omega arith;
    }

pub returns-then-left-ge10-clause-digits : goal.returns-then-left-ge10-clause-digits
returns-then-left-ge10-clause-digits c =
    let l = c.loop-left in
    first_two c.args.n l.left _ _ c.if-left-ge10.true c.loop-left-test.false l.invariant.digits c.write_pair-then-left-ge10.ensures

pub returns-clause-digits : goal.returns-clause-digits
returns-clause-digits c =
    let l = c.loop-left in
    let one = length-digit l.left c.if-left-ge10.false in
    let within = decimal_nonempty c.args.n (omega arith) in
    first_digit c.args.n l.left l.start l.room c.if-left-ge10.false (omega (arith, one)) (omega (arith, one, within)) l.invariant.digits

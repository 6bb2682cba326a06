use Rattle.std.proofs.Common.{◌++◌, get_or, decimal, ap, ◌∙◌, arith}
use Rattle.std.proofs.Math.Facts.{Fits-lt-pow}
use Rattle.ptree.proofs.Styles.Decimals.{length-byte-le, more_numbers, code_parts}
use Rattle.ptree.proofs.style.codes.Codes.push_code.Goals as goal

pub loop-n-preserved : goal.loop-n-preserved
loop-n-preserved c = record {
  text = c.push_number-in-loop-n.ensures.text ∙ ap (λ bs. bs ++ decimal (get_or c.args.others.now c.loop-n.n-index 0)) c.push-in-loop-n.ensures.text
      ∙ more_numbers _ _ c.args.others.now c.loop-n.n-index c.loop-n-test.true c.loop-n.invariant.text;
  len = omega (arith, length-byte-le _ (Fits-lt-pow (c.type_inv.others c.loop-n.n-index)));
}

pub returns-clause-text : goal.returns-clause-text
returns-clause-text c =
    c.push-3.ensures.text ∙ code_parts _ _ _ _ _ c.args.others.now c.args.first c.loop-n.n-index c.push.ensures.text c.push-2.ensures.text c.push_number.ensures.text c.loop-n.invariant.text c.loop-n-test.false

use Rattle.std.specs.Prelude.{unwrap_or}
use Rattle.std.proofs.Common.{◌≡◌, get_or, ap, ◌∙◌, arith, rules}
use Rattle.ptree_trees.proofs.NameKeys.{front_step, front_low}
use Rattle.ptree_trees.proofs.paths.key.key_of.Goals as goal

pub overflow_mul-key : goal.overflow_mul-key
overflow_mul-key c = omega (arith, front_low c.loop-i.i c.args.name.now (search rules))

pub overflow_add-key : goal.overflow_add-key
overflow_add-key c = omega (arith, front_low c.loop-i.i c.args.name.now (search rules))

pub loop-i-preserved : goal.loop-i-preserved
loop-i-preserved c =
    let byte : c.from.result ≡ get_or c.as_bytes-bytes.result.now c.loop-i.i 0 = c.from.ensures ∙ (c.unwrap_or.ensures ∙ (ap (λ o. unwrap_or o 0) c.copied.ensures ∙ c.get.ensures.lookup.4 (omega arith) 0)) in
    let value : get_or c.as_bytes-bytes.result.now c.loop-i.i 0 ≡ get_or c.args.name.now c.loop-i.i 0 = ap (λ z. get_or z c.loop-i.i 0) c.as_bytes-bytes.ensures.value in
    omega (arith, byte, value, front_step c.loop-i.i c.args.name.now)

pub overflow_mul-result : goal.overflow_mul-result
overflow_mul-result c = omega (arith, front_low c.loop-i.i c.args.name.now (search rules))

pub overflow_add-result : goal.overflow_add-result
overflow_add-result c = omega (arith, front_low c.loop-i.i c.args.name.now (search rules))

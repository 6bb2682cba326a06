use Rattle.std.proofs.Common.{◌∙◌, [], sym, ap, map, arith}
use Rattle.std.proofs.lemmas.List.{take_all}
use Rattle.ptree.specs.Value.{data_of}
use Rattle.ptree.proofs.Values.ValuePairs.{item_pairs-of}
use Rattle.std.proofs.lemmas.Grind.{common_steps}
use Rattle.ptree.proofs.value.item_pairs.Goals as goal

pub returns : goal.returns
returns c =
    c.loop-item.invariant ∙ ap (map (λ v. ([], data_of v))) (take_all c.loop-item.item-index c.args.items.now c.loop-item-test.false)
    ∙ sym (item_pairs-of c.args.items.now)

pub loop-item-preserved : goal.loop-item-preserved
loop-item-preserved c = grind (arith, common_steps)

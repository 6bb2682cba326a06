use Rattle.std.proofs.Common.{◌∙◌, sym, ap, map, arith}
use Rattle.std.proofs.lemmas.List.{take_all}
use Rattle.ptree.specs.Data.{entry_pair}
use Rattle.ptree.specs.Value.{data_of}
use Rattle.ptree.proofs.Values.ValuePairs.{entry_pairs-of}
use Rattle.std.proofs.lemmas.Grind.{common_steps}
use Rattle.ptree.proofs.value.entry_pairs.Goals as goal

pub returns : goal.returns
returns c =
    c.loop-key.invariant ∙ ap (map (λ e. entry_pair (data_of e.0) (data_of e.1))) (take_all c.loop-key.key-index c.args.entries.now c.loop-key-test.false)
    ∙ sym (entry_pairs-of c.args.entries.now)

pub loop-key-preserved : goal.loop-key-preserved
loop-key-preserved c = grind (arith, common_steps)

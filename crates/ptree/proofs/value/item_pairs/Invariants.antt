use Rattle.std.proofs.Common.{◌≡◌, [], take, map}
use Rattle.ptree.specs.Value.{data_of, pair_of}
use Rattle.ptree.proofs.value.item_pairs.Given as goal

abbrev pub invariant-loop-item : goal.invariant-loop-item
invariant-loop-item l = map pair_of l.pairs.items ≡ map (λ v. ([], data_of v)) (take l.item-index l.items)

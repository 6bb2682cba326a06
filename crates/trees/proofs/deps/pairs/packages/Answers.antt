use Rattle.std.proofs.Common.{◌≡◌, length, rules}
use Rattle.trees.specs.Depending.{HoldsNone}
use Rattle.trees.proofs.PairGraphs.{none_held}
use Rattle.trees.proofs.Readings.{fails_by_input}
use Rattle.trees.proofs.deps.pairs.packages.Goals as goal

pub returns-then-is_empty-clause-failed : goal.returns-then-is_empty-clause-failed
returns-then-is_empty-clause-failed c =
    let empty : length c.in_ok-pairs.pairs.items ≡ 0 = search rules in
    fails_by_input (HoldsNone c.args.source.now) ⊥ c.in_ok-wrong.field-0 c.in_ok-wrong.ensures.input (none_held c.args.source.now c.in_ok-pairs.pairs.items empty c.in_ok-pairs.ensures.held)

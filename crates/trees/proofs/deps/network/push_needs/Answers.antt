use Rattle.std.proofs.Common.{map, subst, take_all}
use Rattle.trees.specs.Depending.{ends}
use Rattle.trees.specs.DependingParts.{HasNeeds}
use Rattle.trees.proofs.Networks.{need_more, no_needs}
use Rattle.trees.proofs.deps.network.push_needs.Goals as goal

pub loop-need-init : goal.loop-need-init
loop-need-init c = λ none. no_needs c.args.network.now none

pub loop-need-preserved : goal.loop-need-preserved
loop-need-preserved c = λ none. need_more c.args.needs.now c.loop-need.need-index (record { needing = 0; needed = 0 }) c.args.network.now c.loop-need.network c.add_need.new.self c.loop-need-test.true (c.loop-need.invariant none) c.in_ok-add_need.ensures.added

pub returns : goal.returns
returns c = λ none. subst (λ ns. HasNeeds c.args.network.now (map ends ns) c.loop-need.network) (take_all c.loop-need.need-index c.args.needs.now c.loop-need-test.false) (c.loop-need.invariant none)

use Rattle.std.proofs.Common.{sym, subst}
use Rattle.trees.proofs.Reached.{Reaching, reaching_none, reaching_more}
use Rattle.trees.proofs.deps.tops.reach.Goals as goal

pub loop-init : goal.loop-init
loop-init c =
    let old = c.args.reached.now in
    subst (λ left. Reaching c.args.network.now.sorted.keys c.args.from old old left 0) (sym c.in_ok-left.ensures.items) (reaching_none c.args.network.now.sorted.keys c.args.from old)

pub loop-preserved : goal.loop-preserved
loop-preserved c =
    reaching_more c.args.network.now.sorted.keys c.args.from c.args.reached.now c.loop.reached c.mark_needs.new.reached c.loop.left.items c.pop.new.self.items c.mark_needs.new.left.items c.in-Some.node c.loop.counter c.loop.invariant c.in-Some.ensures.items c.in_ok-mark_needs.ensures

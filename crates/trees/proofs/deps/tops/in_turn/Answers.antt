use Rattle.std.proofs.Common.{rules}
use Rattle.trees.proofs.Marks.{turn_new, turn_same, turn_all, turns_all}
use Rattle.trees.proofs.deps.tops.in_turn.Goals as goal
use Rattle.trees.proofs.deps.tops.in_turn.Goals.{then-marked-is_needed+in_ok-push, else-marked-is_needed}

pub loop-i-preserved : goal.loop-i-preserved
loop-i-preserved c =
    elim c.if-marked-is_needed.branch [
      | then-marked-is_needed+in_ok-push w ↦ rw (w.nodes-is, w.in_ok-push.ensures.items) (turn_new c.args.needed.now _ _ c.loop-i.nodes.items c.loop-i.i c.loop-i.invariant c.loop-i-test.true)
      | else-marked-is_needed w ↦ rw w.nodes-is (turn_same c.args.needed.now _ _ c.loop-i.nodes.items c.loop-i.i c.loop-i.invariant (search rules))
    ]

pub loop-is_needed-preserved : goal.loop-is_needed-preserved
loop-is_needed-preserved c = turn_all c.args.needed.now _ c.loop-is_needed.is_needed-index c.loop-i.i c.loop-i.nodes.items c.loop-is_needed-test.true c.loop-i-test.false c.loop-i.invariant

pub returns-clause-all : goal.returns-clause-all
returns-clause-all c = turns_all c.args.needed.now _ c.loop-is_needed.is_needed-index c.loop-is_needed.nodes.items c.loop-is_needed-test.false (search rules) (search rules) c.loop-is_needed.invariant

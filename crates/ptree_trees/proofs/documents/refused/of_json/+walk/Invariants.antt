use Rattle.serde_json.specs.View.{view}
use Rattle.ptree_trees.specs.RefusedPath.{json_at_step, IsFloat}
use Rattle.ptree_trees.proofs.RefusedLoops.{AreElementsLeft, AreMembersLeft}
use Rattle.ptree_trees.proofs.documents.refused.of_json.+walk.Given as goal

abbrev pub invariant-element_path-loop-i : goal.invariant-element_path-loop-i
invariant-element_path-loop-i l = AreElementsLeft json_at_step IsFloat view l.item-items l.i

abbrev pub invariant-member_path-loop-key : goal.invariant-member_path-loop-key
invariant-member_path-loop-key l =
    (goal.iterator-member_path-loop-key).can_next l.key-iterator ×
    (goal.iterator-member_path-loop-key).is_finite l.key-iterator ×
    AreMembersLeft json_at_step IsFloat view l.members.entries l.key-iterator

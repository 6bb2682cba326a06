use Rattle.std.proofs.Common.{map}
use Rattle.std.specs.Vec.Iter.{into_iter_items}
use Rattle.serde_json.specs.View.{items_view, members_view}
use Rattle.ptree.specs.Tree.{tree_of}
use Rattle.ptree_trees.specs.WrittenDocument.{AreJsonElements, AreJsonMembers}
use Rattle.ptree_trees.proofs.WrittenTrees.{HasTreesBut}
use Rattle.ptree_trees.proofs.documents.of_json.+json.Given as goal

abbrev pub invariant-json_elements-loop-item : goal.invariant-json_elements-loop-item
invariant-json_elements-loop-item l =
    (goal.iterator-json_elements-loop-item).can_next l.item-iterator ×
    (goal.iterator-json_elements-loop-item).is_finite l.item-iterator ×
    HasTreesBut AreJsonElements (items_view l.fn.items.items) (items_view (into_iter_items l.item-iterator)) (map tree_of l.made.items)

abbrev pub invariant-json_members-loop-key : goal.invariant-json_members-loop-key
invariant-json_members-loop-key l =
    (goal.iterator-json_members-loop-key).can_next l.key-iterator ×
    (goal.iterator-json_members-loop-key).is_finite l.key-iterator ×
    HasTreesBut AreJsonMembers (members_view l.fn.members.entries) (members_view l.key-iterator) (map tree_of l.made.items)

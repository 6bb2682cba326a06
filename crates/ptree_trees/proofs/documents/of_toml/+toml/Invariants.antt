use Rattle.std.proofs.Common.{map}
use Rattle.std.specs.Vec.Iter.{into_iter_items}
use Rattle.toml.specs.View.{items_view, members_view}
use Rattle.ptree.specs.Tree.{tree_of}
use Rattle.ptree_trees.specs.WrittenDocument.{AreTomlElements, AreTomlMembers}
use Rattle.ptree_trees.proofs.WrittenTrees.{HasTreesBut}
use Rattle.ptree_trees.proofs.documents.of_toml.+toml.Given as goal

abbrev pub invariant-toml_elements-loop-item : goal.invariant-toml_elements-loop-item
invariant-toml_elements-loop-item l =
    (goal.iterator-toml_elements-loop-item).can_next l.item-iterator ×
    (goal.iterator-toml_elements-loop-item).is_finite l.item-iterator ×
    HasTreesBut AreTomlElements (items_view l.fn.items.items) (items_view (into_iter_items l.item-iterator)) (map tree_of l.made.items)

abbrev pub invariant-toml_members-loop-key : goal.invariant-toml_members-loop-key
invariant-toml_members-loop-key l =
    (goal.iterator-toml_members-loop-key).can_next l.key-iterator ×
    (goal.iterator-toml_members-loop-key).is_finite l.key-iterator ×
    HasTreesBut AreTomlMembers (members_view l.fn.members.entries) (members_view l.key-iterator) (map tree_of l.made.items)

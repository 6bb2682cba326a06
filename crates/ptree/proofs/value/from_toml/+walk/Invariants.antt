use Rattle.std.proofs.Common.{◌≡◌, drop}
use Rattle.toml.specs.View.{items_view, members_view}
use Rattle.ptree.specs.Convert.{toml_item_fault, toml_member_fault, toml_items, toml_entries}
use Rattle.ptree.specs.Data.{ItemsAscend, ValuesAscend}
use Rattle.ptree.proofs.value.from_toml.+walk.Given as goal

-- the first fault is that of what is left, and the keys ascend in all if they do in that
abbrev pub invariant-fault_of_items-loop-item : goal.invariant-fault_of_items-loop-item
invariant-fault_of_items-loop-item l =
    (toml_item_fault (items_view l.item-items) ≡ toml_item_fault (items_view (drop l.item-index l.item-items))) ×
    (ItemsAscend (toml_items (items_view (drop l.item-index l.item-items))) → ItemsAscend (toml_items (items_view l.item-items)))

abbrev pub invariant-fault_of_members-loop-member : goal.invariant-fault_of_members-loop-member
invariant-fault_of_members-loop-member l =
    (goal.iterator-fault_of_members-loop-member).can_next l.member-iterator ×
    (goal.iterator-fault_of_members-loop-member).is_finite l.member-iterator ×
    (toml_member_fault (members_view l.members.entries) ≡ toml_member_fault (members_view l.member-iterator)) ×
    (ValuesAscend (toml_entries (members_view l.member-iterator)) → ValuesAscend (toml_entries (members_view l.members.entries)))

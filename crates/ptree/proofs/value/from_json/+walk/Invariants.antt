use Rattle.std.proofs.Common.{◌≡◌, drop}
use Rattle.serde_json.specs.View.{items_view, members_view}
use Rattle.serde_json.specs.Written.{items_have_float, members_have_float}
use Rattle.ptree.specs.Convert.{json_items, json_entries}
use Rattle.ptree.specs.Data.{ItemsAscend, ValuesAscend}
use Rattle.ptree.proofs.value.from_json.+walk.Given as goal

-- a float is in all exactly where one is in what is left, and the keys ascend in all if
-- they do in that
abbrev pub invariant-items_have_float-loop-item : goal.invariant-items_have_float-loop-item
invariant-items_have_float-loop-item l =
    (items_have_float (items_view l.item-items) ≡ items_have_float (items_view (drop l.item-index l.item-items))) ×
    (ItemsAscend (json_items (items_view (drop l.item-index l.item-items))) → ItemsAscend (json_items (items_view l.item-items)))

abbrev pub invariant-members_have_float-loop-member : goal.invariant-members_have_float-loop-member
invariant-members_have_float-loop-member l =
    (goal.iterator-members_have_float-loop-member).can_next l.member-iterator ×
    (goal.iterator-members_have_float-loop-member).is_finite l.member-iterator ×
    (members_have_float (members_view l.members.entries) ≡ members_have_float (members_view l.member-iterator)) ×
    (ValuesAscend (json_entries (members_view l.member-iterator)) → ValuesAscend (json_entries (members_view l.members.entries)))

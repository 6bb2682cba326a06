use Rattle.std.proofs.Common.{◌≡◌, map, take}
use Rattle.serde_json.specs.View.{view}
use Rattle.ptree.specs.Convert.{json_data}
use Rattle.ptree.specs.Value.{data_of, entry_of}
use Rattle.ptree.proofs.Values.Converted.{member_data, AreMade}
use Rattle.ptree.proofs.value.from_json.+convert.Given as goal

abbrev pub invariant-convert_values-loop-item : goal.invariant-convert_values-loop-item
invariant-convert_values-loop-item l =
    map data_of l.values.items ≡ map (λ v. json_data (view v)) (take l.item-index l.item-items)

abbrev pub invariant-convert_entries-loop-key : goal.invariant-convert_entries-loop-key
invariant-convert_entries-loop-key l =
    (goal.iterator-convert_entries-loop-key).can_next l.key-iterator ×
    (goal.iterator-convert_entries-loop-key).is_finite l.key-iterator ×
    AreMade (member_data (λ v. json_data (view v))) l.members.entries l.key-iterator (map entry_of l.entries.items)

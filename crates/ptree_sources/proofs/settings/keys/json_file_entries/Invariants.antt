use Rattle.std.specs.Prelude.{flat_map}
use Rattle.serde_json.specs.View.{members_view}
use Rattle.ptree_sources.specs.KeyLists.{HasKeysBut}
use Rattle.ptree_sources.specs.Settings.{json_keys, keys_at}
use Rattle.ptree_sources.proofs.settings.keys.json_file_entries.Given as goal

abbrev pub invariant-loop-key : goal.invariant-loop-key
invariant-loop-key l =
    (goal.iterator-loop-key).can_next l.key-iterator ×
    (goal.iterator-loop-key).is_finite l.key-iterator ×
    HasKeysBut (flat_map keys_at (json_keys (members_view l.top.entries))) (flat_map keys_at (json_keys (members_view l.key-iterator))) l.found.items

use Rattle.std.specs.Prelude.{Some, map}
use Rattle.toml.specs.View.{members_view}
use Rattle.ptree_sources.specs.KeyLists.{AddsKeysBut}
use Rattle.ptree_sources.specs.Settings.{toml_keys, key_in}
use Rattle.ptree_sources.proofs.settings.keys.push_toml_table.Given as goal

abbrev pub invariant-loop-inner : goal.invariant-loop-inner
invariant-loop-inner l =
    (goal.iterator-loop-inner).can_next l.inner-iterator ×
    (goal.iterator-loop-inner).is_finite l.inner-iterator ×
    AddsKeysBut (map (key_in (Some l.key)) (toml_keys (members_view l.table.entries))) (map (key_in (Some l.key)) (toml_keys (members_view l.inner-iterator))) l.initial.found.items l.found.items

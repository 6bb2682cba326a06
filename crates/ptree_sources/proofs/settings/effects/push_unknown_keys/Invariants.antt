use Rattle.std.proofs.Common.{◌≡◌, ◌++◌, take, map, option_map, string_bytes}
use Rattle.std.specs.Prelude.{flat_map}
use Rattle.ptree_sources.specs.Warnings.{warning_of, unknown_key_warnings}
use Rattle.ptree_sources.proofs.settings.effects.push_unknown_keys.Given as goal

abbrev pub invariant-loop-entry : goal.invariant-loop-entry
invariant-loop-entry l =
    map warning_of l.found.items ≡ map warning_of l.initial.found.items
    ++ flat_map (λ e. unknown_key_warnings (option_map string_bytes e.table) (string_bytes e.key)) (take l.entry-index l.entries)

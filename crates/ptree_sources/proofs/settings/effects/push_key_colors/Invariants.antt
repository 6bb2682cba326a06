use Rattle.std.proofs.Common.{◌≡◌, ◌++◌, take, map, option_map, string_bytes}
use Rattle.std.specs.Prelude.{flat_map}
use Rattle.ptree_sources.specs.Warnings.{warning_of, key_color_warnings}
use Rattle.ptree_sources.proofs.settings.effects.push_key_colors.Given as goal

abbrev pub invariant-loop-entry : goal.invariant-loop-entry
invariant-loop-entry l =
    map warning_of l.found.items ≡ map warning_of l.initial.found.items
    ++ flat_map (λ e. key_color_warnings (option_map string_bytes e.table) (string_bytes e.key) (option_map string_bytes e.text)) (take l.entry-index l.entries)

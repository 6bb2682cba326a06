use Rattle.std.proofs.Common.{◌≡◌, ◌++◌, take, map}
use Rattle.std.specs.Prelude.{flat_map}
use Rattle.ptree.specs.Sources.{given_by}
use Rattle.ptree_sources.specs.Warnings.{warning_of, variable_color_warnings}
use Rattle.ptree_sources.proofs.settings.effects.push_variable_colors.Given as goal

abbrev pub invariant-loop-field : goal.invariant-loop-field
invariant-loop-field l =
    map warning_of l.found.items ≡ map warning_of l.initial.found.items ++ flat_map (variable_color_warnings (given_by l.sources)) (take l.field-index l.fields)

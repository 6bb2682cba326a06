use Rattle.std.proofs.Common.{◌≡◌, ◌++◌, take, map}
use Rattle.std.specs.Prelude.{flat_map}
use Rattle.ptree.specs.Sources.{variables_of}
use Rattle.ptree_sources.specs.Warnings.{warning_of, stray_warnings}
use Rattle.ptree_sources.proofs.settings.effects.push_stray.Given as goal

abbrev pub invariant-loop-variable : goal.invariant-loop-variable
invariant-loop-variable l =
    map warning_of l.found.items ≡ map warning_of l.initial.found.items ++ flat_map (λ v. stray_warnings v.0) (variables_of (take l.variable-index l.variables))

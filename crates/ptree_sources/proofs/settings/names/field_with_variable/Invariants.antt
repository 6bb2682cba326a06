use Rattle.std.proofs.Common.{◌≡◌, drop}
use Rattle.std.specs.Prelude.{find}
use Rattle.ptree_sources.specs.Settings.{has_variable}
use Rattle.ptree_sources.proofs.settings.names.field_with_variable.Given as goal

abbrev pub invariant-loop-field : goal.invariant-loop-field
invariant-loop-field l = find (has_variable l.name) l.fields ≡ find (has_variable l.name) (drop l.field-index l.fields)

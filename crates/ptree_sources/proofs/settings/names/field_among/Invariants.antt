use Rattle.std.proofs.Common.{◌≡◌, drop}
use Rattle.std.specs.Prelude.{find, option_copied}
use Rattle.ptree_sources.specs.Settings.{is_at}
use Rattle.ptree_sources.proofs.settings.names.field_among.Given as goal

abbrev pub invariant-loop-field : goal.invariant-loop-field
invariant-loop-field l =
    find (is_at (option_copied l.table) l.key) l.fields ≡ find (is_at (option_copied l.table) l.key) (drop l.field-index l.fields)

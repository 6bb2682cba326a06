use Rattle.std.proofs.Common.{◌∙◌, ap}
use Rattle.std.specs.Str.{str_eq_ignore_ascii_case}
use Rattle.ptree_sources.specs.Settings.{has_variable}
use Rattle.ptree_sources.proofs.settings.names.has_variable.Goals as goal

pub returns : goal.returns
unfolding has_variable
returns c = c.is_same_name.ensures ∙ ap (λ name. str_eq_ignore_ascii_case name c.args.name.now) c.variable.ensures

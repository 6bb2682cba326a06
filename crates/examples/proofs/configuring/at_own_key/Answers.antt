use Rattle.std.proofs.Common.{◌∙◌, ap}
use Rattle.ptree.specs.Fields.{table_key}
use Rattle.ptree_sources.specs.Settings.{field_at}
use Rattle.examples.proofs.OwnNames.{own_key}
use Rattle.examples.proofs.configuring.at_own_key.Goals as goal

pub returns : goal.returns
returns c =
    c.field_at.ensures.field ∙ ap (λ table. field_at table c.key.result.now) c.table.ensures ∙ ap (λ key. field_at (table_key c.args.field) key) c.key.ensures ∙ own_key c.args.field

use Rattle.std.proofs.Common.{◌≡◌, ap, subst, Some, None}
use Rattle.std.specs.Prelude.{MatchResult}
use Rattle.toml.specs.Parse.{parse_document}
use Rattle.toml.specs.View.{table_view}
use Rattle.toml.proofs.Views.{view-Table}
use Rattle.ptree.specs.File.{toml}
use Rattle.ptree.proofs.print_config.file.parse_toml.Goals as goal

pub returns-in-Ok : goal.returns-in-Ok
returns-in-Ok c =
    let document = parse_document c.args.text.now in
    let read = subst (λ r. MatchResult r (λ table. document ≡ Some (table_view table)) (λ _. document ≡ None)) c.in-Ok.is c.in_ok-table.ensures in
    rw read (ap (λ d. Some (toml d)) (view-Table c.in-Ok.table))

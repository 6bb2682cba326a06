use Rattle.std.proofs.Common.{rules, ◌≡◌, Some, None, IfOk, option_map, subst, sym}
use Rattle.std.specs.Prelude.{MatchOption}
use Rattle.toml.specs.Data.{table}
use Rattle.toml.specs.Parse.{parse_document}
use Rattle.toml.specs.View.{view, members_view, table_view}
use Rattle.toml.specs.declared.value.Value.{Table, the_lemmas}
use Rattle.ptree_trees.specs.RefusedPath.{path_of, IsPathIn, IsFirstFloatOrDate, IsRefusedPath}
use Rattle.ptree_trees.proofs.documents.refused.refused_path.Goals as goal

pub returns-in-Some-2 : goal.returns-in-Some-2
returns-in-Some-2 c =
    let r = c.toml_refused_path.result in
    let document = parse_document c.args.text.now in
    let read = subst (λ o. MatchOption o (document ≡ None) (λ t. document ≡ Some (table_view t))) c.in-Some-2.is c.in_ok-table-in-Toml.ensures in
    let e : view (Table c.in-Some-2.table) ≡ table (members_view c.in-Some-2.table.entries) = search (rules, the_lemmas) in
    let first = subst (λ d. IfOk r (λ path. IsFirstFloatOrDate d (option_map path_of path))) e c.toml_refused_path.ensures in
    let found = subst (λ o. IfOk r (λ path. IsPathIn (λ ms. IsFirstFloatOrDate (table ms)) o (option_map path_of path))) (sym read) first in
    subst (λ format. IfOk r (λ path. IsRefusedPath format c.args.text.now (option_map path_of path))) (sym c.in-Toml.is) found

use Rattle.std.proofs.Common.{◌≡◌, ◌++◌, inl, inr, refl, rules, ap, sym, subst, codes, string_bytes}
use Rattle.trees.specs.declared.failure.Failure.TheVariants.{Input}
use Rattle.ptree.specs.Config.{config_of}
use Rattle.trees.specs.Reading.{FailsToRead, NamesPlace, count_line}
use Rattle.trees.proofs.perform.reports.push_check.Goals as goal

-- how many items there are is said
pub returns-in_ok-push_count-in-Ok-clause-report : goal.returns-in_ok-push_count-in-Ok-clause-report
returns-in_ok-push_count-in-Ok-clause-report c =
    let (t, is, holds) = c.in-Ok.ensures.some in
    (count_line c.args.source.now c.in-Ok.count, c.in_ok-push_count-in-Ok.ensures, inl (t, holds, ap (count_line c.args.source.now) (sym is)))

-- what is wrong is said, on a line of its own
pub returns-in_ok-writeln-in-Err-Input-clause-report : goal.returns-in_ok-writeln-in-Err-Input-clause-report
returns-in_ok-writeln-in-Err-Input-clause-report c =
    let config = config_of c.args.config.now in
    let source = c.args.source.now in
    let wrong = c.in-Err-Input.wrong in
    let failed : FailsToRead config source (Input wrong) = search rules in
    let place : NamesPlace config source (Input wrong) = subst (λ e. NamesPlace config source e) c.in-Err-Input.field-0-is c.in-Err-Input.ensures.place in
    let bytes : string_bytes c.writeln.new.self ≡ string_bytes c.args.said.now ++ (string_bytes wrong ++ codes "\n") = search rules in
    (string_bytes wrong ++ codes "\n", bytes, inr (wrong, (λ h. failed h.0 h.1), place, refl))

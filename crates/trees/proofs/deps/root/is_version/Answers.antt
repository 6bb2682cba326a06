use Rattle.trees.proofs.Common.{◌≡◌, ◌∙◌, codes, eqb-true, sym, rules, begins_with}
use Rattle.std.proofs.lemmas.Bool.{eqb-false}
use Rattle.trees.proofs.NameParts.{starts_is, strip_is, version_more, version_other, version_same}
use Rattle.trees.proofs.deps.root.is_version.Goals as goal

pub returns-then-is_empty-2 : goal.returns-then-is_empty-2
returns-then-is_empty-2 c =
    let wanted = c.args.wanted.now in
    let version = c.args.version.now in
    c.if-is_empty-2.true ∙ sym (version_same wanted version c.in-Some.rest.now (strip_is wanted version c.in-Some.rest c.in-Some.ensures.cases) (eqb-true _ 0 (sym c.is_empty-in-Some.ensures ∙ c.if-is_empty-2.true)))

pub returns-else-is_empty-2 : goal.returns-else-is_empty-2
returns-else-is_empty-2 c =
    let wanted = c.args.wanted.now in
    let version = c.args.version.now in
    let rest = c.in-Some.rest.now in
    let says : c.starts_with.result ≡ begins_with (codes " (") rest = search (rules, starts_is) in
    version_more wanted version rest (strip_is wanted version c.in-Some.rest c.in-Some.ensures.cases) (eqb-false _ 0 (sym c.is_empty.ensures ∙ c.if-is_empty.false)) (eqb-false _ 0 (sym c.is_empty-in-Some.ensures ∙ c.if-is_empty-2.false)) c.starts_with.result says

pub returns-in-None : goal.returns-in-None
returns-in-None c = sym (version_other c.args.wanted.now c.args.version.now (eqb-false _ 0 (sym c.is_empty.ensures ∙ c.if-is_empty.false)) c.in-None.ensures.cases)

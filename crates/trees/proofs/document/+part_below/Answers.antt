use Rattle.trees.proofs.Common.{◌≡◌, ◌∷◌, ◌++◌, codes, rules, IfErr-weaker}
use Rattle.trees.specs.Documents.{shown_keys, steps_in}
use Rattle.trees.specs.Reading.{Says}
use Rattle.trees.proofs.Parts.{missing_first, says_below}
use Rattle.trees.proofs.document.+part_below.Goals as goal

pub returns-in_default-clause-missing : goal.returns-in_default-clause-missing
returns-in_default-clause-missing g t c input =
    let key = c.split_step.result.0.now in
    let missing = missing_first c.args.last.now key c.split_step.result.1 (g.V.Value.node c.args.value) c.split_step.ensures c.in_default.ensures in
    let says : Says c.args.source.now (codes "nothing at " ++ (shown_keys c.args.at.now ++ (codes ": there is no " ++ shown_keys key))) c.in_ok-missing.field-0 = search rules in
    (key, missing, says)

pub returns-in-Some-rest-clause-missing : goal.returns-in-Some-rest-clause-missing
returns-in-Some-rest-clause-missing g t c =
    let key = c.split_step.result.0.now in
    let rest = steps_in c.in-Some-rest.rest.now in
    let is : steps_in c.args.last.now ≡ key ∷ rest = search rules in
    IfErr-weaker c.part_below.result _ _
    (λ e missing input. says_below c.args.source.now c.args.at.now c.args.last.now key rest (g.V.Value.node c.args.value) (g.V.Value.node c.in-Some.part) e is c.in-Some.ensures (missing input)) c.part_below.ensures.missing

use Rattle.std.proofs.Common.{◌∙◌, sym, subst, string_bytes}
use Rattle.std.proofs.lemmas.Result.{IfOk-weaker}
use Rattle.serde_json.specs.Data.{number}
use Rattle.serde_json.specs.View.{number_view}
use Rattle.ptree_trees.specs.WrittenDocument.{IsJsonText}
use Rattle.ptree_trees.proofs.FloatTexts.{json_number}
use Rattle.ptree_trees.proofs.documents.of_json.float_text.Goals as goal

pub returns-in-Ok : goal.returns-in-Ok
returns-in-Ok c =
    let sent = c.in-Ok.ensures.events in
    let is = json_number c.args.number.now.n sent.0 (string_bytes c.in-Ok.text) c.args.number.now.valid sent.1 sent.2 in
    IfOk-weaker c.from_str.result _ _ (λ copy same. subst (IsJsonText (number (number_view c.args.number.now))) (sym (same ∙ c.as_str.ensures.value)) is) c.from_str.ensures.ok

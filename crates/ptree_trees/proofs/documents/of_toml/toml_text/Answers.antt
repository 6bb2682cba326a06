use Rattle.std.proofs.Common.{false, ap, ◌∙◌, subst, string_bytes, sym}
use Rattle.std.proofs.lemmas.Result.{IfOk-weaker}
use Rattle.toml.specs.Text.{IsValueText}
use Rattle.toml.specs.View.{view}
use Rattle.toml.proofs.Views.{view-Float}
use Rattle.ptree_trees.specs.WrittenDocument.{IsTomlText}
use Rattle.ptree_trees.proofs.FloatTexts.{toml_float}
use Rattle.ptree_trees.proofs.documents.of_toml.toml_text.Goals as goal

pub returns-in-Float : goal.returns-in-Float
returns-in-Float c =
    let x = c.in-Float.x in
    let is = ap view c.in-Float.is ∙ view-Float x in
    IfOk-weaker c.written_toml-in-Float.result _ _ (λ s h.
    let own = subst (λ d. IsValueText false d (string_bytes s)) (view-Float x) h in
    subst (λ d. IsTomlText d (string_bytes s)) (sym is) (own, toml_float x (string_bytes s) own)) c.written_toml-in-Float.ensures

use Rattle.std.proofs.Common.{IfOk, ◌⊎◌, inr, false, subst}
use Rattle.std.proofs.lemmas.Result.{IfErr-weaker}
use Rattle.ptree.specs.Config.{ConfigValue}
use Rattle.ptree.specs.Drawing.{look_by, written_look}
use Rattle.ptree.specs.declared.print_config.OutputKind.TheVariants.{Unknown}
use Rattle.ptree_c.specs.Calls.{AreItemsOf, IsReadRefusal}
use Rattle.ptree_c.specs.Fields.{depth_of, look_of}
use Rattle.ptree_c.specs.Refusals.{IsFieldsRefusal}
use Rattle.ptree_c.proofs.read.items_by_fields.Goals as goal

pub returns-clause-items : goal.returns-clause-items
returns-clause-items c =
    subst (λ (v : ConfigValue). IfOk c.items_of_text-items.result (λ made. AreItemsOf (look_by v Unknown false) v.depth c.args.text.now made.items.items made.texts.items)) c.in_ok-config.ensures.value c.items_of_text-items.ensures.items

pub returns-clause-refused : goal.returns-clause-refused
returns-clause-refused c =
    IfErr-weaker c.items_of_text-items.result (IsReadRefusal (written_look c.in_ok-config.config) c.in_ok-config.config.depth c.args.text.now)
    (λ e. IsFieldsRefusal c.args.fields.now e ⊎ IsReadRefusal (look_of c.args.names.now c.args.fields.now) (depth_of c.args.names.now c.args.fields.now) c.args.text.now e)
    (λ e why. inr (subst (λ (v : ConfigValue). IsReadRefusal (look_by v Unknown false) v.depth c.args.text.now e) c.in_ok-config.ensures.value why)) c.items_of_text-items.ensures.refused

use Rattle.std.proofs.Common.{subst}
use Rattle.std.specs.Prelude.{IfOk, IfSome, false}
use Rattle.ptree.specs.Config.{ConfigValue}
use Rattle.ptree.specs.Drawing.{look_by}
use Rattle.ptree.specs.DrawnForm.{IsDrawnForm}
use Rattle.ptree.specs.Tree.{tree_of}
use Rattle.ptree.specs.declared.print_config.OutputKind.TheVariants.{Unknown}
use Rattle.examples.proofs.reading.read_output.Goals as goal

pub returns : goal.returns
returns c =
    subst (λ (v : ConfigValue). IfOk c.read_tree.result (λ o. IfSome o (λ t. IsDrawnForm (look_by v Unknown false) v.depth c.args.text.now (tree_of t))))
    c.in_ok-config.ensures.value c.read_tree.ensures.some

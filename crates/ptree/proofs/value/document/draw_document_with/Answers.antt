use Rattle.ptree.specs.Document.{document}
use Rattle.ptree.specs.Drawing.{config_look}
use Rattle.ptree.specs.declared.print_config.OutputKind.TheVariants.{Stdout}
use Rattle.ptree.proofs.Values.Documents.{nothing_drawn, no_entries, drawn_err, whole_err}
use Rattle.std.proofs.Common.{arith}
use Rattle.std.proofs.lemmas.Grind.{common_steps}
use Rattle.ptree.proofs.value.document.draw_document_with.Goals as goal

pub returns-in_err-parsed-clause-bytes : goal.returns-in_err-parsed-clause-bytes
returns-in_err-parsed-clause-bytes g c =
    nothing_drawn _ (document c.args.format c.args.text.now) (config_look c.args.config.now Stdout c.args.terminal) c.args.label.now c.args.config.now.depth _ c.from_residual.result c.from_residual.ensures.1

pub returns-in_err-parsed-clause-whole : goal.returns-in_err-parsed-clause-whole
returns-in_err-parsed-clause-whole g c =
    no_entries _ (document c.args.format c.args.text.now) (config_look c.args.config.now Stdout c.args.terminal) c.args.label.now c.args.config.now.depth _

pub returns-in_err-drawn-clause-bytes : goal.returns-in_err-drawn-clause-bytes
returns-in_err-drawn-clause-bytes g c =
    drawn_err (document c.args.format c.args.text.now) _ (config_look c.args.config.now Stdout c.args.terminal) c.args.label.now _ c.args.config.now.depth _ _ c.in_ok-parsed.ensures.value c.root.ensures
    _ c.in_err-drawn.field-0.0 c.from_residual-in_err-drawn.result c.from_residual-in_err-drawn.ensures.1 c.in_err-drawn.ensures.bytes

pub returns-in_err-drawn-clause-whole : goal.returns-in_err-drawn-clause-whole
returns-in_err-drawn-clause-whole g c =
    whole_err (document c.args.format c.args.text.now) _ (config_look c.args.config.now Stdout c.args.terminal) c.args.label.now _ c.args.config.now.depth _ _ c.in_ok-parsed.ensures.value c.root.ensures
    c.in_err-drawn.field-0.0 c.from_residual-in_err-drawn.result c.from_residual-in_err-drawn.ensures.1 c.in_err-drawn.ensures.whole

pub returns-clause-bytes : goal.returns-clause-bytes
returns-clause-bytes g c = grind (arith, common_steps)

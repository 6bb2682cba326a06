use Rattle.std.proofs.Common.{sym}
use Rattle.ptree.specs.declared.print_config.OutputKind.TheVariants.{Stdout}
use Rattle.ptree.specs.Document.{document}
use Rattle.ptree.specs.Drawing.{look_by}
use Rattle.ptree.specs.Loading.{effective_config}
use Rattle.ptree.proofs.Values.Documents.{nothing_drawn, no_entries}
use Rattle.ptree.proofs.value.document.draw_document.Goals as goal

pub returns-clause-bytes : goal.returns-clause-bytes
returns-clause-bytes g c = rw (sym c.in_ok-config.ensures.value) c.draw_document_with-drawn.ensures.bytes

pub returns-clause-whole : goal.returns-clause-whole
returns-clause-whole g c = rw (sym c.in_ok-config.ensures.value) c.draw_document_with-drawn.ensures.whole

pub returns-in_err-config-clause-bytes : goal.returns-in_err-config-clause-bytes
returns-in_err-config-clause-bytes g c =
    let effective = effective_config c.args.sources.now in
    nothing_drawn _ (document c.args.format c.args.text.now) (look_by effective Stdout c.args.terminal) c.args.label.now effective.depth _ c.from_residual.result c.from_residual.ensures.1

pub returns-in_err-config-clause-whole : goal.returns-in_err-config-clause-whole
returns-in_err-config-clause-whole g c =
    let effective = effective_config c.args.sources.now in
    no_entries _ (document c.args.format c.args.text.now) (look_by effective Stdout c.args.terminal) c.args.label.now effective.depth _

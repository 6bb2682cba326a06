use Rattle.std.proofs.Common.{subst}
use Rattle.std.proofs.lemmas.Result.{IfOk-weaker}
use Rattle.ptree.specs.Config.{config_of}
use Rattle.ptree_c.specs.Calls.{IsDocumentDrawing, IsDrawingOfDocument}
use Rattle.ptree_c.proofs.document.drawing_of_document.Goals as goal

pub returns-clause-drawn : goal.returns-clause-drawn
returns-clause-drawn c =
    let config = config_of c.args.config.now in
    let format = c.in_ok-format.format in
    let text = c.in-Ok.text.now in
    let label = c.in-Ok-from_utf8.label.now in
    IfOk-weaker c.draw_in_memory.result (λ made. IsDrawingOfDocument config format label text made.items)
    (λ made. IsDocumentDrawing config c.args.format c.args.label.now c.args.text.now made.items)
    (λ made drawn. (
      format,
      c.in_ok-format.ensures.format,
      subst (λ l. IsDrawingOfDocument config format l c.args.text.now made.items) c.in-Ok-from_utf8.ensures.cases.0
          (subst (λ t. IsDrawingOfDocument config format label t made.items) c.in-Ok.ensures.cases.0 drawn),
    )) c.draw_in_memory.ensures.drawn

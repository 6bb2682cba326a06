use Rattle.std.proofs.Common.{◌≡◌, inr, subst}
use Rattle.ptree.specs.Config.{ConfigValue}
use Rattle.ptree_c.specs.Calls.{IsDocumentDrawing}
use Rattle.ptree_c.specs.Rooms.{HasPut}
use Rattle.ptree_c.proofs.document.ptree_draw_document_with.Goals as goal

pub returns-in-Ok-clause-drawn : goal.returns-in-Ok-clause-drawn
returns-in-Ok-clause-drawn c =
    subst (λ (v : ConfigValue). c.put_drawing.result ≡ 0 → HasPut (IsDocumentDrawing v c.args.format c.args.label.now c.args.text.now) 0 c.args.out.now c.put_drawing.new.out c.put_drawing.new.found) c.in-Ok.ensures.value c.put_drawing.ensures.drawn

pub returns-in-Ok-clause-refused : goal.returns-in-Ok-clause-refused
returns-in-Ok-clause-refused c = λ no. (let why = c.put_drawing.ensures.refused no in (why.0, why.1, inr why.2))

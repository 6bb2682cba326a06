use Rattle.std.proofs.Common.{List, ℕ, ap}
use Rattle.ptree.specs.Occurrence.{mark_text}
use Rattle.ptree.specs.Style.{style_of}
use Rattle.ptree.proofs.Graphs.Occurrences.{plain_label_part, plain_written}
use Rattle.ptree.proofs.graph.once.write_marked.Goals as goal

pub returns-in-Err-clause-bytes : goal.returns-in-Err-clause-bytes
returns-in-Err-clause-bytes g c =
    plain_label_part (style_of c.args.style.now) (g.N.Label.text c.args.weight.now) (mark_text c.args.mark.now c.args.repeated) (c.is_plain.ensures c.if-is_plain.true) _ _ c.in-Err.ensures.bytes

pub returns-in-Ok-clause-bytes : goal.returns-in-Ok-clause-bytes
returns-in-Ok-clause-bytes g c =
    plain_written (style_of c.args.style.now) (g.N.Label.text c.args.weight.now) (mark_text c.args.mark.now c.args.repeated) (c.is_plain.ensures c.if-is_plain.true) _ _ _ _ _
    (ap (λ (m : List ℕ). mark_text m c.args.repeated) c.as_bytes.ensures.value) c.in-Ok.ensures.bytes c.put_mark.ensures.bytes

use Rattle.std.proofs.Common.{◌∙◌, refl}
use Rattle.ptree.specs.Style.{style_of, plain_value, start_codes, end_codes}
use Rattle.ptree.proofs.Graphs.Occurrences.{start_part, label_part, mark_part, all_repeated}
use Rattle.ptree.proofs.Sinks.Written.{written_err}
use Rattle.ptree.proofs.graph.once.write_with_codes.Goals as goal

pub returns-in_err-put_all-clause-bytes : goal.returns-in_err-put_all-clause-bytes
returns-in_err-put_all-clause-bytes g c =
    let style = style_of c.args.style.now in
    written_err _ _ _ _ _ c.from_residual.ensures.1
    (start_part (start_codes style) (g.N.Label.text c.args.weight.now) c.args.mark.now (end_codes style) _ _ _ (c.as_bytes.ensures ∙ c.of-codes.ensures.front) c.in_err-put_all.ensures.bytes)

pub returns-in_err-write_plain-clause-bytes : goal.returns-in_err-write_plain-clause-bytes
returns-in_err-write_plain-clause-bytes g c =
    let style = style_of c.args.style.now in
    written_err _ _ _ _ _ c.from_residual-in_err-write_plain.ensures.1
    (label_part (start_codes style) (g.N.Label.text c.args.weight.now) c.args.mark.now (end_codes style) _ _ _ _ plain_value refl
    (c.as_bytes.ensures ∙ c.of-codes.ensures.front) c.in_ok-put_all.ensures.bytes c.in_err-write_plain.ensures.bytes)

pub returns-in_err-put_all-2-clause-bytes : goal.returns-in_err-put_all-2-clause-bytes
returns-in_err-put_all-2-clause-bytes g c =
    let style = style_of c.args.style.now in
    written_err _ _ _ _ _ c.from_residual-in_err-put_all-2.ensures.1
    (mark_part (start_codes style) (g.N.Label.text c.args.weight.now) c.args.mark.now (end_codes style) _ _ _ _ _ _ plain_value refl
    (c.as_bytes.ensures ∙ c.of-codes.ensures.front) c.as_bytes-2.ensures.value c.in_ok-put_all.ensures.bytes c.in_ok-write_plain.ensures.bytes c.in_err-put_all-2.ensures.bytes)

pub returns-clause-bytes : goal.returns-clause-bytes
returns-clause-bytes g c =
    let style = style_of c.args.style.now in
    all_repeated (start_codes style) (g.N.Label.text c.args.weight.now) c.args.mark.now (end_codes style) _ _ _ _ _ _ _ _ _ plain_value refl
    (c.as_bytes.ensures ∙ c.of-codes.ensures.front) c.as_bytes-2.ensures.value (c.as_bytes-3.ensures.value ∙ (c.reset.ensures ∙ c.of-codes.ensures.back))
    c.in_ok-put_all.ensures.bytes c.in_ok-write_plain.ensures.bytes c.in_ok-put_all-2.ensures.bytes c.put_all-3.ensures.bytes

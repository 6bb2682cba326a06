use Rattle.std.proofs.Common.{◌∙◌, refl}
use Rattle.ptree.proofs.Styles.Painting.{codes_part, text_part, all_written}
use Rattle.ptree.proofs.Sinks.Written.{written_err}
use Rattle.ptree.proofs.value.node.put_painted.Goals as goal

pub returns-in_err-put_or_stop-clause-bytes : goal.returns-in_err-put_or_stop-clause-bytes
returns-in_err-put_or_stop-clause-bytes g c =
    written_err _ _ _ _ _ c.from_residual.ensures.1 (codes_part _ _ _ _ _ _ (c.as_bytes.ensures ∙ c.of-codes.ensures.front) c.in_err-put_or_stop.ensures.bytes)

pub returns-in_err-put_entry-clause-bytes : goal.returns-in_err-put_entry-clause-bytes
returns-in_err-put_entry-clause-bytes g c =
    written_err _ _ _ _ _ c.from_residual-in_err-put_entry.ensures.1
    (text_part _ _ _ _ _ _ _ _ (c.as_bytes.ensures ∙ c.of-codes.ensures.front) refl c.in_ok-put_or_stop.ensures.bytes c.in_err-put_entry.ensures.bytes)

pub returns-clause-bytes : goal.returns-clause-bytes
returns-clause-bytes g c =
    all_written _ _ _ _ _ _ _ _ _ _ _ (c.as_bytes.ensures ∙ c.of-codes.ensures.front) refl (c.as_bytes-2.ensures.value ∙ c.reset.ensures ∙ c.of-codes.ensures.back)
    c.in_ok-put_or_stop.ensures.bytes c.in_ok-put_entry.ensures.bytes c.put_or_stop-2.ensures.bytes

use Rattle.std.proofs.Common.{refl}
use Rattle.ptree.proofs.Styles.Painting.{codes_part, text_part, all_written}
use Rattle.ptree.proofs.Sinks.Written.{written_err}
use Rattle.ptree.proofs.value.node.put_entry.Goals as goal

pub returns-in_err-put_or_stop-clause-bytes : goal.returns-in_err-put_or_stop-clause-bytes
returns-in_err-put_or_stop-clause-bytes g c =
    written_err _ _ _ _ _ c.from_residual.ensures.1 (codes_part _ _ _ _ _ _ c.as_bytes.ensures.value c.in_err-put_or_stop.ensures.bytes)

pub returns-in_err-put_or_stop-2-clause-bytes : goal.returns-in_err-put_or_stop-2-clause-bytes
returns-in_err-put_or_stop-2-clause-bytes g c =
    written_err _ _ _ _ _ c.from_residual-in_err-put_or_stop-2.ensures.1
    (text_part _ _ _ _ _ _ _ _ c.as_bytes.ensures.value refl c.in_ok-put_or_stop.ensures.bytes c.in_err-put_or_stop-2.ensures.bytes)

pub returns-clause-bytes : goal.returns-clause-bytes
returns-clause-bytes g c =
    all_written _ _ _ _ _ _ _ _ _ _ _ c.as_bytes.ensures.value refl refl
    c.in_ok-put_or_stop.ensures.bytes c.in_ok-put_or_stop-2.ensures.bytes c.put_or_stop-3.ensures.bytes

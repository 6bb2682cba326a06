use Rattle.std.proofs.Common.{◌∙◌, refl, arith}
use Rattle.ptree.proofs.Styles.Painting.{codes_part, text_part, all_written}
use Rattle.ptree.proofs.Sinks.Written.{written_err}
use Rattle.std.proofs.lemmas.Grind.{common_steps}
use Rattle.ptree.proofs.style.Style.write_with_codes.Goals as goal

pub returns-in_err-put_codes-clause-bytes : goal.returns-in_err-put_codes-clause-bytes
returns-in_err-put_codes-clause-bytes g c =
    written_err _ _ _ _ _ c.from_residual.ensures.1 (codes_part _ _ _ _ _ _ (c.as_bytes.ensures ∙ c.gather.ensures.front) c.in_err-put_codes.ensures.bytes)

pub returns-in_err-put_or_stop : goal.returns-in_err-put_or_stop
returns-in_err-put_or_stop g c = record {
  bytes = written_err _ _ _ _ _ c.from_residual-in_err-put_or_stop.ensures.1
      (text_part _ _ _ _ _ _ _ _ (c.as_bytes.ensures ∙ c.gather.ensures.front) refl c.in_ok-put_codes.ensures.bytes c.in_err-put_or_stop.ensures.bytes);
  cause = grind (arith, common_steps);
  error = grind (arith, common_steps);
  memory = grind (arith, common_steps);
}

pub returns-clause-bytes : goal.returns-clause-bytes
returns-clause-bytes g c =
    all_written _ _ _ _ _ _ _ _ _ _ _ (c.as_bytes.ensures ∙ c.gather.ensures.front) refl (c.as_bytes-2.ensures.value ∙ c.reset.ensures ∙ c.gather.ensures.back)
    c.in_ok-put_codes.ensures.bytes c.in_ok-put_or_stop.ensures.bytes c.put_or_stop-2.ensures.bytes

pub returns-clause-cause : goal.returns-clause-cause
returns-clause-cause g c = grind (arith, common_steps)

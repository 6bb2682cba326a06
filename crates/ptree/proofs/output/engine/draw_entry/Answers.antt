use Rattle.std.proofs.Common.{◌∙◌, subst, List, ℕ}
use Rattle.std.specs.Io.KnownBytes.{Appends}
use Rattle.ptree.specs.Writing.{AppendsPart}
use Rattle.ptree.proofs.Drawing.Engine.{nothing_yet}
use Rattle.ptree.proofs.Sinks.Written.{written_err}
use Rattle.ptree.proofs.output.engine.draw_entry.Goals as goal

pub returns-in_err-gather_entry-clause-bytes : goal.returns-in_err-gather_entry-clause-bytes
returns-in_err-gather_entry-clause-bytes g c = λ outer is. written_err _ _ _ _ _ c.from_residual.ensures.1 (nothing_yet _ _)

pub returns-in_err-put_buffer-clause-bytes : goal.returns-in_err-put_buffer-clause-bytes
returns-in_err-put_buffer-clause-bytes g c = λ outer is.
    written_err _ _ _ _ _ c.from_residual-in_err-put_buffer.ensures.1
    (subst (λ (z : List ℕ). AppendsPart (g.W.Sink.contents c.args.f.now) (g.W.Sink.contents c.put_buffer.new.f) z)
    (c.as_slice.ensures ∙ c.in_ok-gather_entry.ensures.entry outer is) c.in_err-put_buffer.ensures.bytes)

pub returns-clause-bytes : goal.returns-clause-bytes
returns-clause-bytes g c = λ outer is.
    subst (λ (z : List ℕ). Appends (g.W.Sink.contents c.args.f.now) (g.W.Sink.contents c.put_buffer.new.f) z)
    (c.as_slice.ensures ∙ c.in_ok-gather_entry.ensures.entry outer is) c.in_ok-put_buffer.ensures.bytes

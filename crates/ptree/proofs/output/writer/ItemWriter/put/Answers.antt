use Rattle.std.proofs.Common.{◌∙◌, subst, List, ℕ}
use Rattle.ptree.specs.Writing.{AppendsPart}
use Rattle.ptree.proofs.Drawing.Engine.{nothing_yet}
use Rattle.ptree.proofs.Sinks.Written.{written_err}
use Rattle.ptree.proofs.output.writer.ItemWriter.put.Goals as goal

pub returns-in_err-make-clause-bytes : goal.returns-in_err-make-clause-bytes
returns-in_err-make-clause-bytes g c = written_err _ _ _ _ _ c.from_residual.ensures.1 (nothing_yet _ _)

pub returns-in-Err-clause-bytes : goal.returns-in-Err-clause-bytes
returns-in-Err-clause-bytes g c =
    subst (λ (z : List ℕ). AppendsPart (g.W.Sink.contents c.args.f.now) (g.W.Sink.contents c.put_all-put.new.f) z) (c.entry.ensures ∙ c.in_ok-make.ensures.entry) c.in-Err.ensures.bytes

use Rattle.std.proofs.Common.{◌∙◌, arith}
use Rattle.std.proofs.lemmas.Grind.{common_steps, elements}
use Rattle.std.specs.declared.io.Error.{Error}
use Rattle.ptree.proofs.Sinks.PassedOn.{grows_then, grows_put}
use Rattle.ptree.proofs.Sinks.Written.{put_faults-some}
use Rattle.ptree.proofs.sink.buffered.Buffered.put_without_room.Goals as goal

pub returns-in-Ok-clause-handed : goal.returns-in-Ok-clause-handed
returns-in-Ok-clause-handed g c = record {
  grown = grows_then _ _ _ c.hand_on.ensures.handed.grown (grows_put _ _ c.put-result.result c.args.bytes.now c.put-result.ensures.bytes);
  failed = omega (arith, c.hand_on.ensures.handed.failed, c.in-Ok.ensures.faults, put_faults-some Error c.in-Ok.field-0 c.args.bytes.now (λ e. c.in-Ok.field-0-test.1 (c.in-Ok.field-0-is ∙ e)));
}

pub returns-then-is_empty-clause-more : goal.returns-then-is_empty-clause-more
returns-then-is_empty-clause-more g c = grind (arith, elements)

pub returns-then-bytes-len-clause-bytes : goal.returns-then-bytes-len-clause-bytes
returns-then-bytes-len-clause-bytes g c = grind (arith, common_steps)

pub returns-in-Ok-eq0-clause-faults : goal.returns-in-Ok-eq0-clause-faults
returns-in-Ok-eq0-clause-faults g c = grind (arith, elements)

pub returns-in-Ok-eq0-clause-handed : goal.returns-in-Ok-eq0-clause-handed
returns-in-Ok-eq0-clause-handed g c = grind (arith, common_steps)

pub returns-in-Some-fault-clause-faults : goal.returns-in-Some-fault-clause-faults
returns-in-Some-fault-clause-faults g c = grind (arith, elements)

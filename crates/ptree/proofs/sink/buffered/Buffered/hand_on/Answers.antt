use Rattle.std.proofs.Common.{arith}
use Rattle.std.proofs.lemmas.Grind.{elements}
use Rattle.ptree.proofs.Sinks.PassedOn.{keeps_given}
use Rattle.ptree.proofs.sink.buffered.Buffered.hand_on.Goals as goal

pub returns-clause-bytes : goal.returns-clause-bytes
returns-clause-bytes g c = keeps_given _ _ c.put_until_fault-taken.result.0 _ _ (rw c.deref.ensures.value at c.put_until_fault-taken.ensures.bytes) c.remove_prefix.ensures.bytes

pub returns-clause-done : goal.returns-clause-done
returns-clause-done g c = grind (arith, elements)

pub returns-clause-handed : goal.returns-clause-handed
returns-clause-handed g c = grind (arith, elements)

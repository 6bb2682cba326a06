use Rattle.std.proofs.Common.{arith}
use Rattle.ptree.proofs.Sinks.PassedOn.{moved_front}
use Rattle.ptree.proofs.sink.buffered.remove_prefix.Goals as goal

pub returns-clause-bytes : goal.returns-clause-bytes
returns-clause-bytes c = grind (arith, moved_front c.args.room.now.items c.args.n c.args.used c.requires.n)

use Rattle.ptree.proofs.Sinks.Written.{written_rest}
use Rattle.ptree.proofs.output.engine.put_without_room.Goals as goal

pub returns-in-Ok-2-clause-bytes : goal.returns-in-Ok-2-clause-bytes
returns-in-Ok-2-clause-bytes g c =
    written_rest _ _ _ c.in-Ok.n c.args.bytes.now c.put_rest.result c.in-Ok.ensures.bytes c.put_rest.ensures.bytes

use Rattle.std.proofs.Common.{refl}
use Rattle.ptree.proofs.Reading.PrefixVectors.{begins_boundary}
use Rattle.ptree.proofs.read.lines.skip.Goals as goal

pub range_from-requires : goal.range_from-requires
range_from-requires c = λ _. begins_boundary c.args.prefix.now c.args.text.now ((rw (c.as_bytes.ensures.value, c.as_bytes-2.ensures.value) at c.if-not-begins.ensures).0 refl) c.utf8.prefix c.utf8.text

use Rattle.std.proofs.Common.{IsUtf8, sym, subst, to_z-of_z}
use Rattle.ptree.proofs.Values.NumberTexts.{IsUtf8-signed}
use Rattle.ptree.proofs.value.text.signed.Goals as goal

pub end_of-requires-clause-utf8 : goal.end_of-requires-clause-utf8
end_of-requires-clause-utf8 c = subst IsUtf8 (sym c.write_signed-start.ensures.number) (rw (to_z-of_z c.ranges.n) (IsUtf8-signed c.args.n c.ranges.n))

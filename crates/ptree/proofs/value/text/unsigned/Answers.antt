use Rattle.std.proofs.Common.{IsUtf8, sym, subst, arith}
use Rattle.ptree.proofs.Values.NumberTexts.{IsUtf8-decimal}
use Rattle.ptree.proofs.value.text.unsigned.Goals as goal

pub end_of-requires-clause-utf8 : goal.end_of-requires-clause-utf8
end_of-requires-clause-utf8 c = subst IsUtf8 (sym c.write_digits-start.ensures.digits) (IsUtf8-decimal c.args.n (omega arith))

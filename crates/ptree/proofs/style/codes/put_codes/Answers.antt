use Rattle.std.proofs.Common.{arith}
use Rattle.std.proofs.lemmas.Grind.{common_steps}
use Rattle.ptree.proofs.style.codes.put_codes.Goals as goal

pub returns-in-len4-clause-bytes : goal.returns-in-len4-clause-bytes
returns-in-len4-clause-bytes g c = grind (arith, common_steps)

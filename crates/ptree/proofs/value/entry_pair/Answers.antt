use Rattle.std.proofs.Common.{arith}
use Rattle.ptree.specs.declared.value.Value.{the_lemmas}
use Rattle.std.proofs.lemmas.Grind.{common_steps}
use Rattle.ptree.proofs.value.entry_pair.Goals as goal

pub returns : goal.returns
returns c = grind (arith, common_steps, the_lemmas)

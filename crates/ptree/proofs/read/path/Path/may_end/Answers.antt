use Rattle.std.proofs.Common.{arith}
use Rattle.std.proofs.lemmas.Grind.{elements}
use Rattle.ptree.proofs.read.path.Path.may_end.Goals as goal

pub returns-then-not-flags : goal.returns-then-not-flags
returns-then-not-flags c = grind (arith, elements)

pub loop-flags-preserved : goal.loop-flags-preserved
loop-flags-preserved c = grind (arith, elements)

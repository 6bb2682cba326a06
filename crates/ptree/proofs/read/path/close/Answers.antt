use Rattle.std.proofs.Common.{arith}
use Rattle.std.proofs.lemmas.Grind.{common_steps, elements}
use Rattle.ptree.proofs.read.path.close.Goals as goal

pub loop-flags-init : goal.loop-flags-init
loop-flags-init c = grind (arith, common_steps)

pub loop-flags-preserved : goal.loop-flags-preserved
loop-flags-preserved c = grind (arith, common_steps)

pub returns-clause-can : goal.returns-clause-can
returns-clause-can c = grind (arith, common_steps)

pub returns-clause-kept : goal.returns-clause-kept
returns-clause-kept c = grind (arith, common_steps)

pub returns-2-clause-kept : goal.returns-2-clause-kept
returns-2-clause-kept c = grind (arith, common_steps)

pub returns-in-loop-flags-clause-can : goal.returns-in-loop-flags-clause-can
returns-in-loop-flags-clause-can c = grind (arith, elements)

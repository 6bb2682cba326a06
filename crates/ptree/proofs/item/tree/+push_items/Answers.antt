use Rattle.std.proofs.Common.{arith}
use Rattle.std.proofs.lemmas.Grind.{common_steps}
use Rattle.ptree.proofs.item.tree.+push_items.Goals as goal

pub loop-child-preserved : goal.loop-child-preserved
loop-child-preserved t c = grind (arith, common_steps)

pub returns : goal.returns
returns t c = grind (arith, common_steps)

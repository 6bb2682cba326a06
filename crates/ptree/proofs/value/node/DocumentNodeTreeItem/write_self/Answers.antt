use Rattle.std.proofs.Common.{arith}
use Rattle.std.proofs.lemmas.Grind.{common_steps}
use Rattle.ptree.proofs.value.node.DocumentNodeTreeItem.write_self.Goals as goal

pub returns-then-not-is_list-clause-bytes : goal.returns-then-not-is_list-clause-bytes
returns-then-not-is_list-clause-bytes g c = grind (arith, common_steps)

pub returns-clause-bytes : goal.returns-clause-bytes
returns-clause-bytes g c = grind (arith, common_steps)

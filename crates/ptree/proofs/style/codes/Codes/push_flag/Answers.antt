use Rattle.std.proofs.Common.{arith}
use Rattle.ptree.proofs.Styles.CodeLists.{flag_set}
use Rattle.ptree.proofs.style.codes.Codes.push_flag.Goals as goal

pub returns-then-is_set-clause-text : goal.returns-then-is_set-clause-text
returns-then-is_set-clause-text c = flag_set c.args.self.now.bytes _ _ _ c.if-is_set.true c.requires.digit (omega arith)

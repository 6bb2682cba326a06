use Rattle.std.proofs.Common.{rules}
use Rattle.ptree_c.proofs.Later.{later_put}
use Rattle.ptree_c.proofs.outline.put_level.Goals as goal

pub returns-clause-later : goal.returns-clause-later
returns-clause-later c = λ deepest i items same down are. search (rules, later_put c.args.later.now.items deepest c.args.level i items c.requires same down are)

use Rattle.ptree.proofs.Reading.ItemsRead.{level_is, no_level_is}
use Rattle.ptree.proofs.read.items.ItemReader.next_level.Goals as goal

pub returns-in-Some-clause-level : goal.returns-in-Some-clause-level
returns-in-Some-clause-level c look depth x done h t form = level_is look depth x c.args.self.now done t _ c.level.result h form c.in-Some.is c.level.ensures

pub returns-in-None-clause-level : goal.returns-in-None-clause-level
returns-in-None-clause-level c look depth x done h t form = no_level_is look depth x c.args.self.now done t h form c.in-None.is

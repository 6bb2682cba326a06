use Rattle.std.proofs.Common.{inl}
use Rattle.trees.proofs.PathNames.{behind_either}
use Rattle.trees.proofs.lists.behind_start.Goals as goal

pub returns-in-Some : goal.returns-in-Some
returns-in-Some c = inl c.in-Some.ensures

pub returns-in-None : goal.returns-in-None
returns-in-None c = behind_either c.args.path.now c.behind-in-None.result c.in-None.ensures c.behind-in-None.ensures

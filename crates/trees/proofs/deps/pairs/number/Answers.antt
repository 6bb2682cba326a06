use Rattle.trees.proofs.SortedWords.{number_found, none_missed}
use Rattle.trees.proofs.deps.pairs.number.Goals as goal

pub returns-in-Ok : goal.returns-in-Ok
returns-in-Ok c = number_found c.args.names.now c.args.word.now c.in-Ok.number c.requires.ascending c.in-Ok.ensures.bound c.in-Ok.ensures.position

pub returns-in-Err : goal.returns-in-Err
returns-in-Err c = absurd (none_missed c.args.names.now c.args.word.now c.in-Err.place c.requires.ascending c.requires.known c.in-Err.ensures.position)

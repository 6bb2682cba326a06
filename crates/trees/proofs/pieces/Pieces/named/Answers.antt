use Rattle.trees.proofs.Named.{none_named}
use Rattle.trees.proofs.pieces.Pieces.named.Goals as goal

pub returns : goal.returns
returns c = none_named c.args.name.now c.first_named.result c.first_named.ensures

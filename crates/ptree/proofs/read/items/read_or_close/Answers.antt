use Rattle.ptree.specs.Pieces.{pieces_of}
use Rattle.ptree.proofs.read.items.read_or_close.Goals as goal

pub returns-in-Err-clause-path : goal.returns-in-Err-clause-path
returns-in-Err-clause-path g c = c.new.ensures.path (pieces_of c.args.frame.now.look.pieces)

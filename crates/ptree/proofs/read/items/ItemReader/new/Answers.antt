use Rattle.std.proofs.Common.{subst, sym}
use Rattle.ptree.specs.Drawing.{Look}
use Rattle.ptree.specs.Pieces.{pieces_of}
use Rattle.ptree.specs.Readable.{IsReadableWith}
use Rattle.ptree.proofs.read.items.ItemReader.new.Goals as goal

pub invariant_of-result-clause-readable : goal.invariant_of-result-clause-readable
invariant_of-result-clause-readable c = subst (λ (k : Look). IsReadableWith k.pieces k.marker) (sym c.in_ok-frame.ensures.look) c.requires

pub invariant_of-result-clause-opened : goal.invariant_of-result-clause-opened
invariant_of-result-clause-opened c = c.new-2.ensures.path (pieces_of c.in_ok-frame.frame.look.pieces)

use Rattle.std.proofs.Common.{refl}
use Rattle.std.proofs.lemmas.Bool.{false≢true}
use Rattle.ptree.proofs.read.follow.OpenDrawing.new.Goals as goal

pub returns : goal.returns
returns c look depth = record { path = c.new.ensures.path look.pieces; nothing = λ _. (refl, c.new.ensures.flags); something = λ e. absurd (false≢true e) }

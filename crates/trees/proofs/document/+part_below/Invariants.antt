use Rattle.std.proofs.Common.{length}
use Rattle.trees.proofs.document.+part_below.Given as goal

abbrev pub decreases-part_below : goal.decreases-part_below
decreases-part_below g l = length l.last.now

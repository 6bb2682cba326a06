use Rattle.std.specs.Prelude.{⊤}
use Rattle.ptree.specs.ItemReader.{bytes_left}
use Rattle.examples.proofs.reading.read_past_the_end.Given as goal

-- nothing is known of the items so far
abbrev pub invariant-loop-reader : goal.invariant-loop-reader
invariant-loop-reader l = ⊤

abbrev pub decreases-loop-reader : goal.decreases-loop-reader
decreases-loop-reader l = bytes_left l.reader

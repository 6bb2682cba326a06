use Rattle.std.proofs.Common.{map}
use Rattle.ptree.specs.Drawing.{written_look}
use Rattle.ptree.specs.ItemReader.{HasRead, bytes_left}
use Rattle.ptree.specs.ReadItems.{item_line}
use Rattle.ptree.proofs.read.items.read_all.Given as goal

abbrev pub invariant-loop-reader : goal.invariant-loop-reader
invariant-loop-reader l = HasRead (written_look l.config) l.config.depth l.text l.reader (map item_line l.items.items)

abbrev pub decreases-loop-reader : goal.decreases-loop-reader
decreases-loop-reader l = bytes_left l.reader

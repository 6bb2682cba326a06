use Rattle.ptree.specs.Drawing.{written_look}
use Rattle.ptree.specs.ItemReader.{bytes_left}
use Rattle.ptree_c.proofs.ItemsRead.{AreRead}
use Rattle.ptree_c.proofs.read.flat_items.Given as goal

abbrev pub invariant-loop-texts : goal.invariant-loop-texts
invariant-loop-texts l = AreRead (written_look l.config) l.config.depth l.text l.reader l.items.items l.texts.items

abbrev pub decreases-loop-texts : goal.decreases-loop-texts
decreases-loop-texts l = bytes_left l.reader

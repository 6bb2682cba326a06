use Rattle.std.proofs.Common.{◌≡◌, length}
use Rattle.ptree.specs.Looks.{look_of}
use Rattle.ptree.specs.PartialTree.{IsPartial, partial_lines}
use Rattle.ptree.specs.Pieces.{pieces_of}
use Rattle.ptree.specs.Reached.{IsPath}
use Rattle.ptree.specs.ReadItems.{read_text_of}
use Rattle.ptree.specs.Scanned.{IsScanned}
use Rattle.ptree.proofs.read.scan.read_whole.Given as goal

abbrev pub invariant-loop-tree : goal.invariant-loop-tree
invariant-loop-tree l = record {
  path : IsPath (pieces_of l.frame.look.pieces) l.path;
  partial : IsPartial l.tree;
  level : length l.tree.parents.items ≡ length l.path.flags.items;
  scanned : IsScanned (look_of l.frame.look) l.frame.depth l.text l.place.rest.now l.place.lines (partial_lines l.tree) (length l.path.flags.items) (read_text_of l.shown) l.path.flags.items;
}

abbrev pub decreases-loop-tree : goal.decreases-loop-tree
decreases-loop-tree l = length l.place.rest.now

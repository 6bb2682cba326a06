use Rattle.std.proofs.Common.{◌≡◌, ◌≤◌, ◌+◌, List, length}
use Rattle.ptree.specs.Looks.{look_of}
use Rattle.ptree.specs.Outline.{Line}
use Rattle.ptree.specs.Pieces.{pieces_of}
use Rattle.ptree.specs.Reached.{IsPath}
use Rattle.ptree.specs.ReadItems.{read_text_of}
use Rattle.ptree.specs.Scanned.{IsScanned}
use Rattle.ptree.proofs.read.scan.read_item.Given as goal

abbrev pub invariant-loop-path : goal.invariant-loop-path
invariant-loop-path g l = record {
  path : IsPath (pieces_of l.frame.look.pieces) l.path;
  room : l.place.lines + length l.place.rest.now ≤ length l.text;
  level : length l.path.flags.items ≡ length l.fn.path.flags.items;
  less : length l.place.rest.now ≤ length l.fn.place.rest.now;
  scanned : (done : List Line) → IsScanned (look_of l.frame.look) l.frame.depth l.text l.fn.place.rest.now l.fn.place.lines done (length l.fn.path.flags.items) (read_text_of l.fn.shown) l.fn.path.flags.items
      → IsScanned (look_of l.frame.look) l.frame.depth l.text l.place.rest.now l.place.lines done (length l.fn.path.flags.items) (read_text_of l.shown) l.path.flags.items;
}

abbrev pub decreases-loop-path : goal.decreases-loop-path
decreases-loop-path g l = length l.place.rest.now

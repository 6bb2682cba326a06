use Rattle.ptree.specs.Drawing.{written_look}
use Rattle.ptree.specs.Looks.{look_of}
use Rattle.ptree.specs.Outline.{outline}
use Rattle.ptree.specs.Tree.{tree_of}
use Rattle.ptree.proofs.Reading.Scanning.{reading_moved}
use Rattle.ptree.proofs.read.read_config.Goals as goal

pub returns : goal.returns
returns c =
    let frame = c.in_ok-frame.frame in
    reading_moved (λ s. outline (tree_of s)) (look_of frame.look) (written_look c.args.config.now) frame.depth c.args.config.now.depth c.args.text.now c.read_whole-tree.result c.in_ok-frame.ensures.look c.in_ok-frame.ensures.depth c.read_whole-tree.ensures

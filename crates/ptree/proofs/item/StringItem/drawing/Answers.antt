use Rattle.ptree.specs.Drawing.{written_look}
use Rattle.ptree.specs.Tree.{shape_of_tree, tree_of}
use Rattle.ptree.proofs.Drawing.Utf8Texts.{IsUtf8-drawing, texts_of_item}
use Rattle.ptree.proofs.item.StringItem.drawing.Goals as goal

pub from_utf8_unchecked-requires : goal.from_utf8_unchecked-requires
from_utf8_unchecked-requires c =
    let config = c.args.config.now in
    let item = c.args.self.now in
    IsUtf8-drawing config (shape_of_tree (tree_of item)) config.depth c.in_ok-bytes.bytes.items (texts_of_item (written_look config) item) c.in_ok-bytes.ensures

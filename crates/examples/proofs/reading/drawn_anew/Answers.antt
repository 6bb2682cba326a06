use Rattle.std.proofs.Common.{◌≡◌, List, ℕ, string_bytes}
use Rattle.ptree.specs.Drawing.{written_look, IsDrawing}
use Rattle.ptree.specs.Tree.{tree_of, shape_of_tree}
use Rattle.examples.proofs.reading.drawn_anew.Goals as goal

pub returns-in_ok-drawing-in-Some : goal.returns-in_ok-drawing-in-Some
returns-in_ok-drawing-in-Some c =
    let config = c.args.config.now in
    let redrawn : (drawing : List ℕ) → IsDrawing (written_look config) (shape_of_tree (tree_of c.in-Some.tree)) config.depth drawing → drawing ≡ c.args.text.now
    = rw c.in-Some.is at c.in_ok-tree.ensures.redrawn in
    redrawn (string_bytes c.in_ok-drawing-in-Some.field-0) c.in_ok-drawing-in-Some.ensures

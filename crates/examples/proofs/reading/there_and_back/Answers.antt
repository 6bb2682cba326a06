use Rattle.std.proofs.Common.{List, ℕ, subst, sym}
use Rattle.ptree.specs.Drawing.{written_look, IsDrawing}
use Rattle.ptree.specs.Tree.{tree_of, shape_of_tree}
use Rattle.examples.proofs.reading.there_and_back.Goals as goal

pub returns : goal.returns
returns c =
    let tree = tree_of c.args.tree.now in
    let config = c.args.config.now in
    c.read_tree.ensures.drawn tree
    record {
      drawn = subst (λ (bytes : List ℕ). IsDrawing (written_look config) (shape_of_tree tree) config.depth bytes) (sym c.as_str.ensures.value) c.in_ok-drawing.ensures;
      within = c.requires.within;
    }

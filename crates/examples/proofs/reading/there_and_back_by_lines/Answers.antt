use Rattle.std.proofs.Common.{List, ℕ, subst, sym}
use Rattle.ptree.specs.Drawing.{written_look, IsDrawing}
use Rattle.ptree.specs.DrawnForm.{IsDrawnForm}
use Rattle.ptree.specs.Tree.{tree_of, shape_of_tree}
use Rattle.examples.proofs.reading.there_and_back_by_lines.Goals as goal

form : (c : goal.After-drop-drawing) → IsDrawnForm (written_look c.args.config.now) c.args.config.now.depth c.as_str.result.now (tree_of c.args.tree.now)
form c = record {
  drawn = subst (λ (bytes : List ℕ). IsDrawing (written_look c.args.config.now) (shape_of_tree (tree_of c.args.tree.now)) c.args.config.now.depth bytes) (sym c.as_str.ensures.value) c.in_ok-drawing.ensures;
  within = c.requires.within;
}

pub returns-clause-tree : goal.returns-clause-tree
returns-clause-tree c = (c.read_tree_or_line.ensures.drawn (tree_of c.args.tree.now) (form c)).1

pub returns-clause-err : goal.returns-clause-err
returns-clause-err c = (c.read_tree_or_line.ensures.drawn (tree_of c.args.tree.now) (form c)).0

use Rattle.trees.proofs.Common.{◌≡◌, rules, subst, sym, tree_of}
use Rattle.trees.specs.declared.failure.Failure.TheVariants.{Memory}
use Rattle.trees.specs.Asked.{drawing_value}
use Rattle.trees.specs.Merging.{IsComparison, IsMergeDrawing}
use Rattle.trees.specs.Writing.{WritesRefusal}
use Rattle.trees.proofs.Writings.{compares}
use Rattle.trees.proofs.perform.show_all.Goals as goal

pub returns-clause-written : goal.returns-clause-written
returns-clause-written g c =
    let diff = c.args.diff in
    let value = drawing_value c.args.found.now.sources diff.drawing in
    let b = diff.drawing.screen.is_terminal in
    let t = tree_of c.in_ok-tree.tree in
    let u = tree_of c.in_ok-other.other in
    let old = g.W.Sink.contents c.args.out.now in
    let new = g.W.Sink.contents c.draw.new.out in
    let written : WritesRefusal old new c.draw.result (IsMergeDrawing value b t u) (λ e. e ≡ Memory) = search rules in
    compares c.args.found.now.sources c.args.left.now c.args.right.now diff t u old new c.draw.result c.in_ok-tree.ensures.some c.in_ok-other.ensures.some
    (subst (λ all. WritesRefusal old new c.draw.result (IsComparison all value b t u) (λ e. e ≡ Memory)) (sym c.requires.all) written)

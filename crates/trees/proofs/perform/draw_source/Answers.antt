use Rattle.trees.proofs.Common.{rules, IsErr, IfErr, tree_of}
use Rattle.trees.specs.Writing.{IsDrawingOf, IsGiven, FailsToGive}
use Rattle.trees.proofs.Shown.{drawing_shown, drawing_nothing}
use Rattle.trees.proofs.Writings.{drawing_made, nothing_written, gives_memory}
use Rattle.trees.proofs.perform.draw_source.Goals as goal

-- the tree that is drawn is that of the input
pub returns-clause-written : goal.returns-clause-written
returns-clause-written g c =
    let source = c.args.source.now in
    let tree = c.args.tree in
    drawing_made c.args.found.now.sources c.args.drawing (IsGiven source tree) (FailsToGive source tree) (g.W.Sink.contents c.args.out.now) (g.W.Sink.contents c.draw-drawn.new.out) c.draw-drawn.result (tree_of c.in_ok-tree.tree)
    (search rules) (λ e is. gives_memory source tree e is) (search rules)

pub returns-in_err-tree-clause-written : goal.returns-in_err-tree-clause-written
returns-in_err-tree-clause-written g c =
    let source = c.args.source.now in
    let tree = c.args.tree in
    let fails : FailsToGive source tree c.in_err-tree.field-0.0 = c.in_err-tree.ensures.failed in
    let says : IfErr c.from_residual.result (FailsToGive source tree) = search (rules, fails) in
    let err : IsErr c.from_residual.result = search rules in
    nothing_written (g.W.Sink.contents c.args.out.now) c.from_residual.result (IsDrawingOf c.args.found.now.sources c.args.drawing (IsGiven source tree)) (FailsToGive source tree) err says

pub returns-clause-shown : goal.returns-clause-shown
returns-clause-shown g c =
    let source = c.args.source.now in
    let tree = c.args.tree in
    drawing_shown c.args.found.now.sources c.args.drawing (IsGiven source tree) (FailsToGive source tree) (g.W.Sink.contents c.args.out.now) (g.W.Sink.contents c.draw-drawn.new.out) c.draw-drawn.result (returns-clause-written g c)

pub returns-in_err-tree-clause-shown : goal.returns-in_err-tree-clause-shown
returns-in_err-tree-clause-shown g c = drawing_nothing c.args.found.now.sources c.args.drawing (g.W.Sink.contents c.args.out.now)

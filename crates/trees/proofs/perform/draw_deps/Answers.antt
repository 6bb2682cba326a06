use Rattle.std.proofs.Common.{inl, inr, rules, ◌⊎◌}
use Rattle.trees.specs.Asked.{drawing_value}
use Rattle.trees.specs.Meaning.{HoldsNoGraph}
use Rattle.trees.specs.Reading.{FailsFor}
use Rattle.trees.specs.Writing.{Writes, IsGraphDrawing, IsGraphTooDeep, IsNeedsDrawing, MeansTooDeep, FailsToDepend}
use Rattle.trees.proofs.Readings.{fails_weaker}
use Rattle.trees.proofs.Shown.{dependencies_shown, drawing_nothing}
use Rattle.trees.proofs.Writings.{writes_weaker, nothing_written}
use Rattle.trees.proofs.perform.draw_deps.Goals as goal

-- the graph that is drawn is what the source means
pub returns-clause-written : goal.returns-clause-written
returns-clause-written g c =
    let sources = c.args.found.now.sources in
    let source = c.args.source.now in
    let deps = c.args.deps in
    let found = c.in_ok-dependencies.dependencies in
    let deep : Type 0 = IsGraphTooDeep (drawing_value sources c.args.drawing) found deps.walks in
    let means : Type 0 = MeansTooDeep sources source deps c.args.drawing in
    let old = g.W.Sink.contents c.args.out.now in
    writes_weaker old (g.W.Sink.contents c.draw-drawn.new.out) c.draw-drawn.result (IsGraphDrawing (drawing_value sources c.args.drawing) found deps.walks) (IsNeedsDrawing sources source deps c.args.drawing) (FailsFor deep ⊥) (FailsToDepend sources source deps c.args.drawing)
    (λ bytes drawing. (found, c.in_ok-dependencies.ensures.graph, drawing)) (λ e says. fails_weaker deep (HoldsNoGraph source deps.root ⊎ means) ⊥ e (λ is. inr (found, c.in_ok-dependencies.ensures.graph, is)) says) (search rules)

pub returns-in_err-dependencies-clause-written : goal.returns-in_err-dependencies-clause-written
returns-in_err-dependencies-clause-written g c =
    let sources = c.args.found.now.sources in
    let source = c.args.source.now in
    let deps = c.args.deps in
    let means : Type 0 = MeansTooDeep sources source deps c.args.drawing in
    let e = c.in_err-dependencies.field-0.0 in
    let fails : FailsToDepend sources source deps c.args.drawing e = fails_weaker (HoldsNoGraph source deps.root) (HoldsNoGraph source deps.root ⊎ means) ⊥ e inl c.in_err-dependencies.ensures.failed in
    nothing_written (g.W.Sink.contents c.args.out.now) c.from_residual.result (IsNeedsDrawing sources source deps c.args.drawing) (FailsToDepend sources source deps c.args.drawing) (search rules) (search (rules, fails))

-- the labels are as a terminal may get them
pub returns-clause-shown : goal.returns-clause-shown
returns-clause-shown g c =
    let config = drawing_value c.args.found.now.sources c.args.drawing in
    let old = g.W.Sink.contents c.args.out.now in
    let new = g.W.Sink.contents c.draw-drawn.new.out in
    let Fails = FailsFor (IsGraphTooDeep config c.in_ok-dependencies.dependencies c.args.deps.walks) ⊥ in
    let drawn : Writes old new c.draw-drawn.result (IsGraphDrawing config c.in_ok-dependencies.dependencies c.args.deps.walks) Fails = search rules in
    dependencies_shown c.args.found.now.sources c.args.drawing c.in_ok-dependencies.dependencies c.args.deps.walks Fails old new c.draw-drawn.result c.in_ok-dependencies.ensures.labels drawn

pub returns-in_err-dependencies-clause-shown : goal.returns-in_err-dependencies-clause-shown
returns-in_err-dependencies-clause-shown g c = drawing_nothing c.args.found.now.sources c.args.drawing (g.W.Sink.contents c.args.out.now)

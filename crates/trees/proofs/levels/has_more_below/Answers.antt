use Rattle.trees.proofs.Common.{◌↔◌, IsTrue, sym, subst, edges_of, neighbors_of}
use Rattle.trees.specs.Levels.{HasMoreLevels}
use Rattle.trees.proofs.LevelSteps.{walk_told, once_level}
use Rattle.trees.proofs.levels.has_more_below.Goals as goal

pub returns-then-walks : goal.returns-then-walks
returns-then-walks c =
    let edges = edges_of c.args.graph.now in
    subst (λ b. IsTrue c.is_none.result ↔ HasMoreLevels edges c.args.root.0 b) (sym c.if-walks.true)
    (walk_told (neighbors_of edges) c.args.root.0 5000 _ _ c.in_ok-longest_walk.field-0 c.is_none.result c.is_none.ensures c.in_ok-longest_walk.ensures)

pub returns : goal.returns
returns c =
    let edges = edges_of c.args.graph.now in
    let once = c.in_ok-once.ensures in
    let told = once_level edges c.args.root.0 c.in_ok-once.once.places.items once.places once.tree once.one_tree in
    let level = rw c.as_slice.ensures.value at c.has_level.ensures in
    subst (λ b. IsTrue c.has_level.result ↔ HasMoreLevels edges c.args.root.0 b) (sym c.if-walks.false)
    (λ e. told.0 (level.0 e), λ has. level.1 (told.1 has))

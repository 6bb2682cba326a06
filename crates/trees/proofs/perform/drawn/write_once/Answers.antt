use Rattle.trees.proofs.Common.{false, rules, config_of}
use Rattle.trees.specs.Writing.{IsGraphDrawing}
use Rattle.trees.proofs.perform.drawn.write_once.Goals as goal

-- the drawing is that of the one tree
pub returns-clause-written : goal.returns-clause-written
returns-clause-written g c =
    let one = c.write_graph_once_with.ensures.one_tree in
    let drawn = c.write_graph_once_with.ensures.bytes one.0 one.1 in
    let is : IsGraphDrawing (config_of c.args.config.now) c.args.dependencies.now false drawn.0 = (one.0, one.1, search (rules, drawn)) in
    (drawn.0, is, drawn.2)

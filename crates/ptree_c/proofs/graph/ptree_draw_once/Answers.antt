use Rattle.std.proofs.Common.{rules}
use Rattle.ptree_c.proofs.graph.ptree_draw_once.Goals as goal

pub returns-in-Ok-clause-drawn : goal.returns-in-Ok-clause-drawn
returns-in-Ok-clause-drawn c = λ done.
    let given = c.in-Ok.ensures.drawn in
    (given.0, given.1, (c.in-Ok.drawing.items, given.2, search rules, search rules))

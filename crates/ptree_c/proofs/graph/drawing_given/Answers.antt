use Rattle.std.proofs.Common.{◌∙◌, None, sym, ap, subst, rules}
use Rattle.std.specs.Prelude.{option_copied}
use Rattle.ptree.specs.Drawing.{written_look}
use Rattle.ptree_c.specs.Graphs.{IsGraphDrawing}
use Rattle.ptree_c.proofs.graph.drawing_given.Goals as goal

pub returns-in-Some : goal.returns-in-Some
returns-in-Some c =
    let is = ap option_copied (sym c.in-Some.is) ∙ c.in_ok-mark.ensures in
    (c.in_ok-graph.graph, c.in_ok-graph.ensures, subst (λ m. IsGraphDrawing m (written_look c.args.config.now) c.args.config.now.depth c.in_ok-graph.graph c.args.start c.in_ok-drawing_of_once-in-Some.field-0.items) is c.in_ok-drawing_of_once-in-Some.ensures)

pub returns : goal.returns
returns c =
    let drawn : IsGraphDrawing None (written_look c.args.config.now) c.args.config.now.depth c.in_ok-graph.graph c.args.start c.in_ok-drawing_of_walks-in-None.field-0.items = search rules in
    let is = ap option_copied (sym c.in-None.is) ∙ c.in_ok-mark.ensures in
    (c.in_ok-graph.graph, c.in_ok-graph.ensures, subst (λ m. IsGraphDrawing m (written_look c.args.config.now) c.args.config.now.depth c.in_ok-graph.graph c.args.start c.in_ok-drawing_of_walks-in-None.field-0.items) is drawn)

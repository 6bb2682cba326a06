use Rattle.std.proofs.Common.{◌+◌, ◌∙◌, Some, sym, ap, subst}
use Rattle.ptree.specs.Tree.{tree_of, shape_of_tree}
use Rattle.ptree.specs.Writing.{IsDrawn}
use Rattle.ptree_cli.specs.Command as asked
use Rattle.ptree_cli.specs.Redraw.{plus_look}
use Rattle.ptree_cli.specs.Run.{ending_faults, EndsWith}
use Rattle.ptree_cli.proofs.Endings.{reported_ending}
use Rattle.ptree_cli.proofs.Redraws.{redrawn_end}
use Rattle.ptree_cli.proofs.redraw.draw_plus.Goals as goal

pub returns-clause-ends : goal.returns-clause-ends
returns-clause-ends g c = λ sources text before after reads read terminal.
    let old = g.W.Sink.contents c.args.out.now in
    let new = g.W.Sink.contents c.write_tree_with.new.f in
    let result = c.write_tree_with.result in
    let t = tree_of c.args.tree.now in
    let plus = subst (λ look. IsDrawn look (shape_of_tree t) c.in-Ok.plus.depth old new result) c.in-Ok.ensures.look c.write_tree_with.ensures.bytes in
    let drawn = subst (λ depth. IsDrawn plus_look (shape_of_tree t) depth old new result) c.in-Ok.ensures.depth plus in
    let end = redrawn_end sources t text before after reads read result old new drawn terminal in
    subst (λ e. EndsWith sources (Some (record { terminal = terminal; command = asked.redraw })) e
    (record { input = before; output = old }) (record { input = after; output = new })) (sym c.of_drawing.ensures) end

pub returns-clause-cause : goal.returns-clause-cause
returns-clause-cause g c =
    c.write_tree_with.ensures.cause ∙ ap (λ n. g.W.Sink.faults c.args.out.now + n) (reported_ending c.write_tree_with.result ∙ ap ending_faults (sym c.of_drawing.ensures))

use Rattle.std.proofs.Common.{Bool, subst}
use Rattle.ptree.specs.declared.print_config.OutputKind.TheVariants.{Stdout}
use Rattle.ptree.specs.Drawing.{config_look}
use Rattle.ptree.specs.Tree.{tree_of, shape_of_tree}
use Rattle.ptree.specs.Writing.{IsDrawn}
use Rattle.examples.proofs.drawing.print_to_terminal.Goals as goal

pub returns : goal.returns
returns g c = let (terminal, is, drawn) = c.print_tree_to.ensures.bytes in
    subst (λ (b : Bool). IsDrawn (config_look c.args.config.now Stdout b) (shape_of_tree (tree_of c.args.tree.now)) c.args.config.now.depth (g.W.Sink.contents c.args.out.now.inner) (g.W.Sink.contents c.print_tree_to.new.out.inner) c.print_tree_to.result) is drawn

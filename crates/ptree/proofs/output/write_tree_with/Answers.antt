use Rattle.std.proofs.Common.{false}
use Rattle.ptree.specs.Drawing.{config_look, prefix_text, passing_text, own_at}
use Rattle.ptree.specs.declared.print_config.OutputKind.TheVariants.{Unknown}
use Rattle.ptree.proofs.Drawing.CutTrees.{drawing_of_cut_tree}
use Rattle.ptree.proofs.Drawing.Inserted.{entry_of_one_line}
use Rattle.ptree.proofs.Drawing.Laws.{exactly_one_list, drawing_of_cut}
use Rattle.ptree.proofs.Drawing.Subtrees.{subtrees}
use Rattle.ptree.proofs.output.write_tree_with.Goals as goal

pub returns-clause-one_list : goal.returns-clause-one_list
returns-clause-one_list g c = exactly_one_list (g.T.Shaped.shape c.args.item.now) c.args.config.now.depth

pub returns-clause-cut : goal.returns-clause-cut
returns-clause-cut g c = λ e text h. drawing_of_cut (config_look c.args.config.now Unknown false) c.args.config.now.depth e (g.T.Shaped.shape c.args.item.now) text h

pub returns-clause-cut_tree : goal.returns-clause-cut_tree
returns-clause-cut_tree g c = drawing_of_cut_tree (config_look c.args.config.now Unknown false) c.args.config.now.depth

pub returns-clause-subtree : goal.returns-clause-subtree
returns-clause-subtree g c = subtrees (config_look c.args.config.now Unknown false) (g.T.Shaped.shape c.args.item.now) c.args.config.now.depth

pub returns-clause-one_line : goal.returns-clause-one_line
returns-clause-one_line g c =
    let look = config_look c.args.config.now Unknown false in
    let x = g.T.Shaped.shape c.args.item.now in
    λ a. entry_of_one_line look (prefix_text look x a) (passing_text look x a) (own_at look x a)

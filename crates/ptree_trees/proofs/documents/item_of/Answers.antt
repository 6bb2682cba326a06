use Rattle.std.proofs.Common.{◌∙◌, ap, map}
use Rattle.ptree.specs.Tree.{tree_of, tree_kids}
use Rattle.ptree.proofs.Trees.ItemTrees.{tree_of_roll, trees_of_forest}
use Rattle.ptree_trees.proofs.documents.item_of.Goals as goal

pub returns-clause-kids : goal.returns-clause-kids
returns-clause-kids c = ap tree_kids (tree_of_roll (record { text = c.args.text; children = c.args.children })) ∙ trees_of_forest (map tree_of c.args.children.items)

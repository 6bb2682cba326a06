use Rattle.std.proofs.Common.{◌∙◌, ap, map, sym}
use Rattle.ptree.specs.Tree.{tree_of, tree_own, tree_kids, shape_of_tree}
use Rattle.ptree.proofs.Trees.ItemTrees.{kids_of_item, map_twice}
use Rattle.ptree.proofs.Trees.Shapes.{kids_of_unfold}
use Rattle.ptree.proofs.item.StringItemTreeItem.children.Goals as goal

pub returns-clause-shapes : goal.returns-clause-shapes
returns-clause-shapes c =
    ap (map (λ s. shape_of_tree (tree_of s))) c.as_slice.ensures.value ∙ map_twice tree_of shape_of_tree _
    ∙ ap (map shape_of_tree) (sym (kids_of_item c.args.self.now)) ∙ kids_of_unfold tree_own tree_kids (tree_of c.args.self.now)

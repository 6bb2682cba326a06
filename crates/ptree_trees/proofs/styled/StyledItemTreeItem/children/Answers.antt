-- The children are those of the shape, since it is unfolded from them.
use Rattle.std.proofs.Common.{◌∙◌, ap, map}
use Rattle.ptree.proofs.Trees.Shapes.{kids_of_unfold}
use Rattle.ptree_trees.specs.Styled.{styled_own, styled_shape}
use Rattle.ptree_trees.specs.declared.styled.StyledItem.{out-StyledItem}
use Rattle.ptree_trees.proofs.styled.StyledItemTreeItem.children.Goals as goal

pub returns-clause-shapes : goal.returns-clause-shapes
returns-clause-shapes c =
    ap (map styled_shape) c.as_slice.ensures.value
    ∙ kids_of_unfold styled_own (λ s. (out-StyledItem s).children.items) c.args.self.now

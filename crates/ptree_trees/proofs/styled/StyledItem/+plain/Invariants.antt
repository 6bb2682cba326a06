use Rattle.std.proofs.Common.{◌≡◌, map, take}
use Rattle.ptree.specs.Tree.{tree_of}
use Rattle.ptree_trees.specs.Styled.{texts_of}
use Rattle.ptree_trees.proofs.styled.StyledItem.+plain.Given as goal

-- the children so far have the texts of those passed
abbrev pub invariant-loop-child : goal.invariant-loop-child
invariant-loop-child l = map tree_of l.children.items ≡ map texts_of (take l.child-index l.child-items)

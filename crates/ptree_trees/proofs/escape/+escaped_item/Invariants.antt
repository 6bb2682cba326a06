use Rattle.std.proofs.Common.{◌≡◌, map, take}
use Rattle.ptree.specs.Tree.{tree_of}
use Rattle.ptree_trees.specs.Escape.{escaped_text, mapped_tree}
use Rattle.ptree_trees.proofs.escape.+escaped_item.Given as goal

-- the children so far are escaped
abbrev pub invariant-loop-child : goal.invariant-loop-child
invariant-loop-child l = map tree_of l.children.items ≡ map (mapped_tree escaped_text) (map tree_of (take l.child-index l.child-items))

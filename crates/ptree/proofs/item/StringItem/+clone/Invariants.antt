use Rattle.std.proofs.Common.{◌≡◌, map, take}
use Rattle.ptree.specs.Tree.{tree_of}
use Rattle.ptree.proofs.item.StringItem.+clone.Given as goal

abbrev pub invariant-loop-child : goal.invariant-loop-child
invariant-loop-child l = map tree_of l.children.items ≡ map tree_of (take l.child-index l.child-items)

use Rattle.std.proofs.Common.{◌≡◌, drop}
use Rattle.ptree.specs.Address.{at}
use Rattle.ptree.specs.Tree.{tree_kids, tree_of}
use Rattle.ptree.proofs.item.StringItem.at_address.Given as goal

-- the positions that are left lead from here to the same item
abbrev pub invariant-loop-position : goal.invariant-loop-position
invariant-loop-position l = at tree_kids (tree_of l.item) (drop l.position-index l.address) ≡ at tree_kids (tree_of l.self) l.address

use Rattle.std.proofs.Common.{◌≡◌, map, drop}
use Rattle.ptree.specs.Tree.{tree_of}
use Rattle.ptree_trees.specs.Change.{tree_at_names}
use Rattle.ptree_trees.proofs.change.at.Given as goal

-- the names that are left lead from here to the same item
abbrev pub invariant-loop-name : goal.invariant-loop-name
invariant-loop-name l = tree_at_names (tree_of l.item) (map (λ name. name.now) (drop l.name-index l.path)) ≡ tree_at_names (tree_of l.root) (map (λ name. name.now) l.path)

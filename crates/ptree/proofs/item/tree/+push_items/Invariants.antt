use Rattle.std.proofs.Common.{◌≡◌, ◌++◌, ◌∷◌, ℕ, suc, map, drop}
use Rattle.ptree.specs.Subtrees.{subtrees_at}
use Rattle.ptree.specs.Tree.{Tree, tree_of, forest}
use Rattle.ptree.proofs.item.tree.+push_items.Given as goal

-- those so far, and those of the children that are left
abbrev pub invariant-loop-child : goal.invariant-loop-child
invariant-loop-child l =
    map {B = ℕ × Tree} (λ p. (p.0, tree_of p.1.now)) l.items.items ++ subtrees_at (suc l.level) (forest (map tree_of (drop l.child-index l.child-items)))
    ≡ map (λ p. (p.0, tree_of p.1.now)) l.fn.items.items ++ (l.level, tree_of l.item) ∷ subtrees_at (suc l.level) (tree_of l.item).children

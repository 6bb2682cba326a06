use Rattle.std.proofs.Common.{◌≡◌, ◌∙◌, ◌++◌, ℕ, List, ap, map, subst, sym}
use Rattle.std.specs.Borrow.{Bor}
use Rattle.ptree.specs.Outline.{AreItems}
use Rattle.ptree.specs.Subtrees.{subtrees}
use Rattle.ptree.specs.Tree.{Tree, tree_of}
use Rattle.ptree.specs.declared.item.StringItem.{StringItem}
use Rattle.ptree.proofs.Trees.OutlineAddresses.{items_of_tree}
use Rattle.ptree.proofs.Trees.OutlineItems.{item_tree}
use Rattle.ptree.proofs.item.StringItem.items.Goals as goal

pub returns : goal.returns
returns c =
    let t = tree_of c.args.self.now in
    let before : List (ℕ × Bor StringItem) → List (ℕ × Tree) = λ z. map item_tree z ++ subtrees t in
    let all : map item_tree c.push_items.new.items.items ≡ subtrees t = c.in_ok-push_items.ensures ∙ ap before c.new-items.ensures.items in
    subst (AreItems t) (sym all) (items_of_tree t)

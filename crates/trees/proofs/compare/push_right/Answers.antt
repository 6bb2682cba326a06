use Rattle.trees.proofs.Common.{◌≡◌, ◌++◌, List, map, take_all, subst, rules, tree_of, StringItem}
use Rattle.trees.specs.declared.compare.Side.TheVariants.{Right}
use Rattle.trees.specs.Merging.{styled_tree_of, marked_tree}
use Rattle.trees.proofs.Merges.{next_shown}
use Rattle.trees.proofs.compare.push_right.Goals as goal

pub loop-item-preserved : goal.loop-item-preserved
loop-item-preserved c =
    let look = c.args.look in
    let item = c.item-item.result in
    let made = c.in_ok-marked.field-0 in
    next_shown tree_of styled_tree_of (marked_tree look Right) (map styled_tree_of c.args.made.now.items) c.args.items.now c.loop-item.made.items c.push.new.self.items c.loop-item.item-index
    item made c.loop-item-test.true c.item-item.is c.in_ok-push.ensures.items c.loop-item.invariant (search rules)

pub returns : goal.returns
returns c =
    subst (λ (xs : List StringItem). map styled_tree_of c.loop-item.made.items ≡ map styled_tree_of c.args.made.now.items ++ map (marked_tree c.args.look Right) (map tree_of xs))
    (take_all c.loop-item.item-index c.args.items.now c.loop-item-test.false) c.loop-item.invariant

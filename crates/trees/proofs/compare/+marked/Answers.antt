use Rattle.trees.proofs.Common.{◌≡◌, [], rules, IfOk-weaker, tree_of, HasParts}
use Rattle.trees.specs.Merging.{styled_tree_of, marked_tree}
use Rattle.trees.proofs.Merges.{next_shown, whole_marked}
use Rattle.trees.proofs.compare.+marked.Goals as goal

pub loop-child-preserved : goal.loop-child-preserved
loop-child-preserved t c =
    let look = c.args.look in
    let side = c.args.side in
    let item = c.child-item.result in
    let made = c.in_ok-marked.field-0 in
    next_shown tree_of styled_tree_of (marked_tree look side) [] c.deref-child-items.result.now c.loop-child.children.items c.push.new.self.items c.loop-child.child-index
    item made c.loop-child-test.true c.child-item.is c.in_ok-push.ensures.items c.loop-child.invariant (search rules)

pub returns : goal.returns
returns t c =
    let look = c.args.look in
    let side = c.args.side in
    let item = c.args.item.now in
    let children = c.loop-child.children.items in
    let text = c.as_str-2.result.now in
    IfOk-weaker c.new.result (HasParts text c.style.result children) (λ s. styled_tree_of s ≡ marked_tree look side (tree_of item))
    (λ s parts. whole_marked look side item s text c.style.result children c.deref-child-items.result.now c.loop-child.child-index c.deref-child-items.ensures.value c.loop-child-test.false
    parts (search rules) c.style.ensures c.loop-child.invariant) c.new.ensures

use Rattle.std.proofs.Common.{rules}
use Rattle.ptree.specs.Tree.{tree_of}
use Rattle.ptree_trees.proofs.Sorting.{next_sorted, sorted_whole}
use Rattle.ptree_trees.proofs.change.sort.+sorted.Goals as goal

pub loop-child-preserved : goal.loop-child-preserved
loop-child-preserved t c =
    next_sorted tree_of c.deref-child-items.result.now c.loop-child.children.items c.push.new.self.items c.loop-child.child-index c.child-item.result c.in_ok-sorted.field-0
    c.loop-child-test.true c.child-item.is c.in_ok-push.ensures.items c.loop-child.invariant c.in_ok-sorted.ensures

pub returns : goal.returns
returns t c =
    sorted_whole c.args.root.now (record { text = c.in_ok-clone.field-0; children = c.sort_by_text.new.items }) c.deref-child-items.result.now c.loop-child.children.items c.loop-child.child-index
    c.deref-child-items.ensures.value c.loop-child-test.false (search rules) c.loop-child.invariant c.in_ok-sort_by_text.ensures

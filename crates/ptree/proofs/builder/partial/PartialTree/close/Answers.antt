use Rattle.std.proofs.Common.{◌<◌, length, ◌∙◌, subst, arith}
use Rattle.ptree.specs.PartialTree.{Ascend, HasOneRoot}
use Rattle.ptree.proofs.Trees.PartialTrees.{ascend_pop, root_above}
use Rattle.ptree.proofs.Trees.PartialSteps.{parents_count, closed_over}
use Rattle.ptree.proofs.Trees.ItemTrees.{tree_of_roll}
use Rattle.ptree.proofs.builder.partial.PartialTree.close.Goals as goal

pub split_off-requires : goal.split_off-requires
split_off-requires c =
    let count = length c.loop-self.self.closed.items in
    let left = ascend_pop 0 c.pop.new.self.items c.in-Some.parent count (subst (λ z. Ascend 0 z count) c.in-Some.ensures.items c.loop-self.invariant.partial.0) in
    omega (arith, left.1, c.loop-self.self.closed.ok.0)

pub loop-self-preserved-in-Continue-branch-2 : goal.loop-self-preserved-in-Continue-branch-2
loop-self-preserved-in-Continue-branch-2 c =
    let now = c.loop-self.self in
    let above = c.pop.new.self.items in
    let count = parents_count now.parents.items above c.in-Some.parent c.in-Some.ensures.items in
    let deeper : c.args.level < length now.parents.items = omega (arith, c.loop-self-test.true, c.len.ensures, now.parents.ok.0) in
    let some : 0 < length above = omega (arith, count, c.requires.low, deeper) in
    let over = closed_over now.parents.items above c.in-Some.parent now.closed.items c.split_off.new.self.items c.push.new.self.items c.in_ok-children.children.items _ c.in-Some.ensures.items
    c.in_ok-children.ensures.items c.in_ok-children.ensures.tail c.in_ok-push.ensures.items (tree_of_roll _) c.loop-self.invariant.partial.0 in
    record {
      partial = (over.0, root_above above c.in-Some.parent now.closed.items c.push.new.self.items some (subst (λ z. HasOneRoot z now.closed.items) c.in-Some.ensures.items c.loop-self.invariant.partial.1));
      high = omega (arith, count, deeper);
      lines = over.1 ∙ c.loop-self.invariant.lines;
    }

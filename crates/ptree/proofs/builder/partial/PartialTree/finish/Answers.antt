use Rattle.std.proofs.Common.{◌+◌, ◌≡◌, length, length-append, vec_len, eqb-true, subst, refl, sym, ◌∙◌, ap, arith}
use Rattle.std.proofs.lemmas.List.{nil_from_length}
use Rattle.ptree.specs.PartialTree.{Ascend}
use Rattle.ptree.proofs.Trees.PartialTrees.{ascend_pop}
use Rattle.ptree.proofs.Trees.PartialSteps.{finishing_more, root_finished}
use Rattle.ptree.proofs.Trees.ItemTrees.{tree_of_roll}
use Rattle.ptree.proofs.builder.partial.PartialTree.finish.Goals as goal

pub split_off-requires : goal.split_off-requires
split_off-requires c =
    let closed = c.loop-parent.closed.items in
    let left = ascend_pop 0 c.pop.new.self.items c.in-Some.parent (length closed) (subst (λ z. Ascend 0 z (length closed)) c.in-Some.ensures.items c.loop-parent.invariant.ascend) in
    let count : length c.push.new.self.items ≡ length closed + 1 = ap length c.in_ok-push.ensures.items ∙ length-append closed _ in
    omega (arith, left.1, count, c.push.new.self.ok.0)

pub returns-then-is_empty : goal.returns-then-is_empty
returns-then-is_empty c =
    let above = c.pop.new.self in
    let empty = eqb-true (vec_len above) 0 (sym c.is_empty.ensures ∙ c.if-is_empty.true) in
    root_finished _ c.loop-parent.parents.items above.items c.in-Some.parent c.loop-parent.closed.items c.push.new.self.items c.push.new.self.items c.loop-parent.item _
    c.in-Some.ensures.items (nil_from_length above.items (omega (arith, empty, above.ok.0))) c.in_ok-push.ensures.items refl (tree_of_roll _) c.loop-parent.invariant

pub loop-parent-preserved : goal.loop-parent-preserved
loop-parent-preserved c =
    finishing_more _ c.loop-parent.parents.items c.pop.new.self.items c.in-Some.parent c.loop-parent.closed.items c.push.new.self.items c.split_off.new.self.items c.in_ok-children.children.items c.loop-parent.item _
    c.in-Some.ensures.items c.in_ok-push.ensures.items c.in_ok-children.ensures.items c.in_ok-children.ensures.tail (tree_of_roll _) c.loop-parent.invariant

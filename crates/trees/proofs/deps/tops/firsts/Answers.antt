use Rattle.trees.proofs.Common.{◌≡◌, ◌∙◌, ◌+◌, not, false, true, get_or, length, set, sym, ap, subst, rules, not-true, not-false}
use Rattle.std.proofs.lemmas.List.{with_items_is}
use Rattle.std.specs.Vec.{with_items}
use Rattle.trees.specs.DependingParts.{labels_of, Reaches}
use Rattle.trees.proofs.Tops.{FirstsOf, firsts_of_new, firsts_of_same, among_all, firsts_all}
use Rattle.trees.proofs.deps.tops.firsts.Goals as goal
use Rattle.trees.proofs.deps.tops.firsts.Goals.{then-mark+in_ok-push+in_ok-reach, else-mark}

pub loop-node-preserved : goal.loop-node-preserved
loop-node-preserved c =
    let keys = c.args.network.now.sorted.keys in
    let count = length (labels_of c.args.network.now) in
    let nodes = c.args.nodes.now in
    let i = c.loop-node.node-index in
    let node = get_or nodes i 0 in
    let firsts = c.loop-node.firsts.items in
    let marks = c.loop-node.reached.items in
    let shown = c.deref_mut.ensures.value in
    let marked : c.mark.new.marks ≡ set marks node true = c.mark.ensures.marked ∙ ap (λ ms. set ms node true) shown in
    elim c.if-mark.branch [
      | then-mark+in_ok-push+in_ok-reach w ↦
          let first : get_or marks node true ≡ false = not-true (get_or marks node true) (ap (λ ms. not (get_or ms node true)) (sym shown) ∙ (sym c.mark.ensures.new ∙ w.if-mark.true)) in
          let begun : w.deref_mut-then-mark.result.now ≡ set marks node true = w.deref_mut-then-mark.ensures.value ∙ (with_items_is c.loop-node.reached c.mark.new.marks (search rules) ∙ marked) in
          let size' : length w.reach.new.reached ≡ c.loop-node.reached.len = search rules in
          let reached : c.if-mark.reached.items ≡ w.reach.new.reached = ap (λ v. v.items) w.reached-is ∙ with_items_is (with_items c.loop-node.reached c.mark.new.marks) w.reach.new.reached size' in
          let reaches : Reaches keys node (set marks node true) w.reach.new.reached = subst (λ ms. Reaches keys node ms w.reach.new.reached) begun w.in_ok-reach.ensures in
          subst (λ ms. FirstsOf keys count nodes (i + 1) c.if-mark.firsts.items ms) (sym reached)
          (subst (λ v. FirstsOf keys count nodes (i + 1) v.items w.reach.new.reached) (sym w.firsts-is)
          (subst (λ ns. FirstsOf keys count nodes (i + 1) ns w.reach.new.reached) (sym w.in_ok-push.ensures.items)
          (firsts_of_new keys count nodes i firsts marks c.loop-node.invariant c.loop-node-test.true w.reach.new.reached first reaches)))
      | else-mark w ↦
          let same : get_or marks node true ≡ true = not-false (get_or marks node true) (ap (λ ms. not (get_or ms node true)) (sym shown) ∙ (sym c.mark.ensures.new ∙ w.if-mark.false)) in
          let reached : c.if-mark.reached.items ≡ set marks node true = ap (λ v. v.items) w.reached-is ∙ (with_items_is c.loop-node.reached c.mark.new.marks (search rules) ∙ marked) in
          subst (λ ms. FirstsOf keys count nodes (i + 1) c.if-mark.firsts.items ms) (sym reached)
          (subst (λ v. FirstsOf keys count nodes (i + 1) v.items (set marks node true)) (sym w.firsts-is)
          (firsts_of_same keys count nodes i firsts marks c.loop-node.invariant c.loop-node-test.true same))
    ]

pub returns-clause-nodes : goal.returns-clause-nodes
returns-clause-nodes c =
    among_all c.args.network.now.sorted.keys (length (labels_of c.args.network.now)) c.args.nodes.now c.loop-node.node-index c.loop-node.firsts.items c.loop-node.reached.items c.loop-node.invariant c.loop-node-test.false

pub returns-clause-firsts : goal.returns-clause-firsts
returns-clause-firsts c =
    firsts_all c.args.network.now.sorted.keys (length (labels_of c.args.network.now)) c.args.nodes.now c.loop-node.node-index c.loop-node.firsts.items c.loop-node.reached.items c.loop-node.invariant c.loop-node-test.false

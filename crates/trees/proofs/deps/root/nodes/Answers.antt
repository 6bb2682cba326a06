use Rattle.trees.proofs.Common.{◌≡◌, ◌≤◌, ◌<◌, ◌∙◌, ◌+◌, length, get_or, string_bytes, refl, sym, ap, subst, arith, length-map}
use Rattle.std.proofs.Math.ListN.{get_or-map}
use Rattle.trees.specs.DependingParts.{labels_of, paths_of, is_meant}
use Rattle.trees.proofs.Roots.{AreNodes, nodes_push, nodes_same, nodes_all}
use Rattle.trees.proofs.deps.root.nodes.Goals as goal
use Rattle.trees.proofs.deps.root.nodes.Goals.{then-is_meant+in_ok-push, else-is_meant}

pub loop-i-preserved : goal.loop-i-preserved
loop-i-preserved c =
    let network = c.args.network.now in
    let is_whole = c.args.is_whole in
    let labels = labels_of network in
    let paths = paths_of network in
    let name = c.args.name.now in
    let i = c.loop-i.i in
    let items = network.labels.items in
    let label = c.label-item.result in
    let low : i < length items = subst (λ ls. i < length ls) c.deref-label-items.ensures.value c.loop-i-test.true in
    let below : i < length labels = omega (arith, length-map items string_bytes, low) in
    let is : label ≡ get_or items i label = subst (λ ls. label ≡ get_or ls i label) c.deref-label-items.ensures.value c.label-item.is in
    let at : string_bytes label ≡ get_or labels i (string_bytes label) = ap string_bytes is ∙ sym (get_or-map string_bytes items i label) in
    let text = ap (is_meant is_whole paths name i) (sym c.as_str.ensures.value) in
    elim c.if-is_meant.branch [
      | then-is_meant+in_ok-push w ↦
          subst (λ v. AreNodes is_whole labels paths name (i + 1) v.items) (sym w.found-is)
          (subst (AreNodes is_whole labels paths name (i + 1)) (sym w.in_ok-push.ensures.items)
          (nodes_push is_whole labels paths name i c.loop-i.found.items (string_bytes label) below at c.loop-i.invariant _ refl (text ∙ (sym c.is_meant.ensures ∙ w.if-is_meant.true))))
      | else-is_meant w ↦
          subst (λ v. AreNodes is_whole labels paths name (i + 1) v.items) (sym w.found-is)
          (nodes_same is_whole labels paths name i c.loop-i.found.items (string_bytes label) below at c.loop-i.invariant (text ∙ (sym c.is_meant.ensures ∙ w.if-is_meant.false)))
    ]

pub returns : goal.returns
returns c =
    let network = c.args.network.now in
    let size = length-map network.labels.items string_bytes in
    let end : length network.labels.items ≤ c.loop-i.i = subst (λ ls. length ls ≤ c.loop-i.i) c.deref-label-items.ensures.value c.loop-i-test.false in
    nodes_all c.args.is_whole (labels_of network) (paths_of network) c.args.name.now c.loop-i.i c.loop-i.found.items (omega (arith, size, end)) c.loop-i.invariant

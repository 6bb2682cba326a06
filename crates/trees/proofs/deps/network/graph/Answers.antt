use Rattle.trees.proofs.Common.{◌≡◌, ◌≤◌, ◌<◌, ◌++◌, ◌∙◌, length, get_or, map, string_bytes, ap, subst, rules, take_all, numbers_of, weights_of, LacksNode}
use Rattle.trees.specs.Shown.{shown_text}
use Rattle.trees.specs.DependingParts.{labels_of}
use Rattle.std.specs.Prelude.{⊤, Any}
use Rattle.trees.proofs.PairGraphs.{label_shown, same_count}
use Rattle.trees.proofs.Readings.{fails_weaker}
use Rattle.trees.proofs.ShownDrawings.{no_labels, label_added, same_labels}
use Rattle.trees.proofs.deps.network.graph.Goals as goal

pub loop-label-init : goal.loop-label-init
loop-label-init c = (λ on. no_labels c.new-graph.result c.new-graph.ensures.weights, ap (map string_bytes) c.new-graph.ensures.weights, c.new-graph.ensures.edges)

pub loop-label-preserved : goal.loop-label-preserved
loop-label-preserved c =
    let labels = c.args.network.now.labels.items in
    let i = c.loop-label.label-index in
    let label = c.label-item.result in
    let so = c.loop-label.invariant in
    let low : i < length labels = subst (λ ls. i < length ls) c.deref-label-items.ensures.value c.loop-label-test.true in
    let is : label ≡ get_or labels i label = subst (λ ls. label ≡ get_or ls i label) c.deref-label-items.ensures.value c.label-item.is in (
      λ on. label_added c.loop-label.graph c.add_node.new.self c.in_ok-shown_text.field-0 c.in_ok-add_node.ensures.ok (so.0 on) (c.in_ok-shown_text.ensures.hidden on),
      ap (map string_bytes) c.in_ok-add_node.ensures.ok ∙ label_shown c.args.is_terminal (weights_of c.loop-label.graph) labels i c.in_ok-shown_text.field-0 label low is so.1 (c.in_ok-shown_text.ensures.text ∙ ap (shown_text c.args.is_terminal) c.as_str.ensures.value),
      c.in_ok-add_node.ensures.edges ∙ so.2,
    )

pub returns-in-Ok : goal.returns-in-Ok
returns-in-Ok c =
    let labels = c.args.network.now.labels.items in
    let i = c.loop-label.label-index in
    let so = c.loop-label.invariant in
    let end : length labels ≤ i = subst (λ ls. length ls ≤ i) c.deref-label-items.ensures.value c.loop-label-test.false in
    record {
      labels = λ on. same_labels c.loop-label.graph c.extend_with_edges.new.self c.extend_with_edges.ensures.weights (so.0 on);
      texts = ap (map string_bytes) c.extend_with_edges.ensures.weights ∙ (so.1 ∙ ap (λ ls. map (shown_text c.args.is_terminal) (map string_bytes ls)) (take_all i labels end));
      edges = c.in-Ok.ensures.ok ∙ (ap (λ es. es ++ map numbers_of c.deref.result.now) so.2 ∙ ap (map numbers_of) c.deref.ensures.value);
      failed = tt;
    }

pub returns-clause-failed : goal.returns-clause-failed
returns-clause-failed c =
    let labels = c.args.network.now.labels.items in
    let edges = c.args.network.now.edges.items in
    let i = c.loop-label.label-index in
    let end : length labels ≤ i = subst (λ ls. length ls ≤ i) c.deref-label-items.ensures.value c.loop-label-test.false in
    let same : length (weights_of c.loop-label.graph) ≡ length (labels_of c.args.network.now) = same_count c.args.is_terminal (weights_of c.loop-label.graph) labels i end c.loop-label.invariant.1 in
    let any : Any (LacksNode (length (weights_of c.loop-label.graph))) c.deref.result.now = search rules in
    let lacks : Any (LacksNode (length (labels_of c.args.network.now))) edges = subst (λ es. Any (LacksNode (length (labels_of c.args.network.now))) es) c.deref.ensures.value (subst (λ n. Any (LacksNode n) c.deref.result.now) same any) in
    fails_weaker ⊤ (Any (LacksNode (length (labels_of c.args.network.now))) edges) ⊥ c.wrong.result (λ _. lacks) c.wrong.ensures

use Rattle.trees.proofs.Common.{◌≡◌, ◌≢◌, true, length, map, rules, NodeIndex}
use Rattle.trees.specs.DependingParts.{labels_of, meant_nodes, paths_of}
use Rattle.trees.proofs.Roots.{named_whole, unnamed_whole, named_parts, unnamed_parts}
use Rattle.trees.proofs.deps.root.named.Goals as goal

pub returns-then-not-is_empty-clause-root : goal.returns-then-not-is_empty-clause-root
returns-then-not-is_empty-clause-root c =
    let is : map (λ (n : NodeIndex). n.0) c.in_ok-whole.whole.items ≡ meant_nodes true c.args.network.now c.args.name.now = search rules in
    named_whole (labels_of c.args.network.now) (paths_of c.args.network.now) c.args.name.now c.in_ok-whole.whole.items is c.only.result c.deref.result.now c.deref.ensures.value c.only.ensures.only

pub returns-then-not-is_empty-clause-failed : goal.returns-then-not-is_empty-clause-failed
returns-then-not-is_empty-clause-failed c =
    let some : length c.in_ok-whole.whole.items ≢ 0 = search rules in
    unnamed_whole (labels_of c.args.network.now) (paths_of c.args.network.now) c.args.name.now c.in_ok-whole.whole.items c.in_ok-whole.ensures c.only.result c.deref.result.now c.deref.ensures.value some c.only.ensures.failed

pub returns-clause-root : goal.returns-clause-root
returns-clause-root c =
    let empty : length c.in_ok-whole.whole.items ≡ 0 = search rules in
    named_parts (labels_of c.args.network.now) (paths_of c.args.network.now) c.args.name.now c.in_ok-whole.whole.items c.in_ok-whole.ensures c.only-2.result empty c.in_ok-parts.parts.items c.in_ok-parts.ensures c.deref-2.result.now c.deref-2.ensures.value c.only-2.ensures.only

pub returns-clause-failed : goal.returns-clause-failed
returns-clause-failed c =
    let empty : length c.in_ok-whole.whole.items ≡ 0 = search rules in
    unnamed_parts (labels_of c.args.network.now) (paths_of c.args.network.now) c.args.name.now c.in_ok-whole.whole.items c.in_ok-whole.ensures c.only-2.result empty c.in_ok-parts.parts.items c.in_ok-parts.ensures c.deref-2.result.now c.deref-2.ensures.value c.only-2.ensures.failed

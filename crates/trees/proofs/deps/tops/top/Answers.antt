use Rattle.std.proofs.Common.{◌≢◌, ◌≤◌, ◌++◌, ◌∙◌, List, ℕ, length, map, take, ap, subst, rules, take_all}
use Rattle.trees.specs.DependingParts.{labels_of, needs_of}
use Rattle.trees.proofs.Roots.{stands_above}
use Rattle.trees.proofs.deps.tops.top.Goals as goal

pub returns : goal.returns
returns c =
    let old = c.args.network.now in
    let n = length (labels_of old) in
    let tops = c.in_ok-tops.tops.items in
    let i = c.loop-top.top-index in
    let so = c.loop-top.invariant in
    let several : length tops ≢ 1 = search rules in
    let items = c.deref-top-items.ensures.value in
    let end : length tops ≤ i = subst (λ (xs : List ℕ). length xs ≤ i) items c.loop-top-test.false in
    let edges = so.2 ∙ (ap (λ (xs : List ℕ). needs_of old ++ map (λ (t : ℕ). (n, t)) (take i xs)) items ∙ ap (λ (xs : List ℕ). needs_of old ++ map (λ (t : ℕ). (n, t)) xs) (take_all i tops end)) in
    (tops, c.in_ok-tops.ensures.nodes, c.in_ok-tops.ensures.tops, stands_above c.args.label.now (labels_of old) (needs_of old) tops (labels_of c.loop-top.network) (needs_of c.loop-top.network) c.len-2.result several so.0 so.1 edges)

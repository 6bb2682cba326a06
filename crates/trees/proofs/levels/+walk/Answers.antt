use Rattle.trees.proofs.Common.{◌≡◌, ◌-◌, suc, inl, inr, [], length, Some, slice_get, get_or, refl, sym, ap, ◌∙◌, subst, arith, rules, cases_lt, length-map, unwrap_or-slice_get, edges_of, neighbors_of, NodeIndex}
use Rattle.trees.specs.declared.levels.Walks.TheVariants.{Unknown, Open, Longest}
use Rattle.trees.specs.Levels.{HasLevel, walks_from}
use Rattle.trees.proofs.LevelSteps.{level_here, level_few, level_around, leads_on, level_by, height_by, neighbor_at, known_set, right_set}
use Rattle.trees.proofs.levels.+walk.Goals as goal

pub longest_below-loop-next-init : goal.longest_below-loop-next-init
longest_below-loop-next-init t c = record {
  some = level_here (neighbors_of (edges_of c.args.graph.now)) c.args.node.0;
  no_more = λ i v low is has. absurd (omega (arith, low));
  few = omega arith;
  right = c.requires.right;
  opened = λ u e. e;
}

pub longest_below-returns-then-most-eq0 : goal.longest_below-returns-then-most-eq0
longest_below-returns-then-most-eq0 t c =
    let below = neighbors_of (edges_of c.args.graph.now) in
    let i = c.loop-next.next-index in
    let w = get_or c.deref-next-items.result.now i (record { 0 = 0 }) in
    let is = neighbor_at c.deref-next-items.result.now (below c.args.node.0) i (record { 0 = 0 }) (search rules) c.loop-next-test.true in
    subst (λ n. HasLevel below (suc n) c.args.node.0) (sym c.if-most-eq0.true) (level_by below 0 i c.args.node.0 w.0 is (level_here below w.0))

pub longest_below-longest_walk-requires : goal.longest_below-longest_walk-requires
longest_below-longest_walk-requires t c =
    let below = neighbors_of (edges_of c.args.graph.now) in
    let i = c.loop-next.next-index in
    let w = get_or c.deref-next-items.result.now i (record { 0 = 0 }) in
    let is = neighbor_at c.deref-next-items.result.now (below c.args.node.0) i (record { 0 = 0 }) (search rules) c.loop-next-test.true in (
      search rules,
      (c.loop-next.invariant.right, λ u e. let (n, low, walk) = c.requires.open u (c.loop-next.invariant.opened u e) in (suc n, omega arith, leads_on below n i u c.args.node.0 w.0 walk is)),
    )

pub longest_below-returns-in_default : goal.longest_below-returns-in_default
longest_below-returns-in_default t c =
    let below = neighbors_of (edges_of c.args.graph.now) in
    let i = c.loop-next.next-index in
    let w = get_or c.deref-next-items.result.now i (record { 0 = 0 }) in
    let is = neighbor_at c.deref-next-items.result.now (below c.args.node.0) i (record { 0 = 0 }) (search rules) c.loop-next-test.true in
    let deep : HasLevel below (suc (c.args.most - 1)) w.0 = rw c.in_default.is at c.in_ok-steps.ensures in
    let one : suc (c.args.most - 1) ≡ c.args.most = omega (arith, c.if-most-eq0.false) in
    subst (λ n. HasLevel below (suc n) c.args.node.0) one (level_by below (suc (c.args.most - 1)) i c.args.node.0 w.0 is deep)

pub longest_below-loop-next-preserved : goal.longest_below-loop-next-preserved
longest_below-loop-next-preserved t c =
    let below = neighbors_of (edges_of c.args.graph.now) in
    let i = c.loop-next.next-index in
    let v = c.args.node.0 in
    let before = c.loop-next.invariant in
    let longest = c.loop-next.longest in
    let steps = c.in-Some.steps in
    let new = c.max-longest.result in
    let w = get_or c.deref-next-items.result.now i (record { 0 = 0 }) in
    let is = neighbor_at c.deref-next-items.result.now (below v) i (record { 0 = 0 }) (search rules) c.loop-next-test.true in
    let walked = rw c.in-Some.is at c.in_ok-steps.ensures in
    record {
      some = elim (cases_lt longest (suc steps)) [
        | inl x ↦ (let same : suc steps ≡ new = omega (arith, c.max-longest.ensures) in subst (λ n. HasLevel below n v) same (level_by below steps i v w.0 is walked.0.some))
        | inr x ↦ (let same : longest ≡ new = omega (arith, c.max-longest.ensures) in subst (λ n. HasLevel below n v) same before.some)
      ];
      no_more = λ j u low at has. elim (cases_lt j i) [
        | inl x ↦ before.no_more j u x at (level_few below longest new u (omega (arith, c.max-longest.ensures)) has)
        | inr x ↦ (let here : j ≡ i = omega arith in
            let same : Some u ≡ Some w.0 = sym at ∙ (ap (slice_get (below v)) here ∙ is) in
            let node : u ≡ w.0 = cc in
            walked.0.no_more (level_few below (suc steps) new w.0 (omega (arith, c.max-longest.ensures)) (subst (HasLevel below new) node has)))
      ];
      few = omega (arith, c.max-longest.ensures, walked.1, before.few, c.if-most-eq0.false);
      right = walked.2;
      opened = λ u e. before.opened u (walked.3 u e);
    }

pub longest_below-returns : goal.longest_below-returns
longest_below-returns t c =
    let below = neighbors_of (edges_of c.args.graph.now) in
    let v = c.args.node.0 in
    let items = c.deref-next-items.result.now in
    let same : length (below v) ≡ length items = search (rules, length-map items (λ (b : NodeIndex). b.0)) in
    let before = c.loop-next.invariant in (
      height_by below c.loop-next.longest v before.some (λ i w low is. before.no_more i w (omega (arith, low, same, c.loop-next-test.false)) is),
      before.few,
      before.right,
      before.opened,
    )

pub longest_walk-longest_below-requires : goal.longest_walk-longest_below-requires
longest_walk-longest_below-requires t c =
    let v = c.args.node.0 in
    let old = c.args.known.now.items in
    let new = c.set_walks.new.known.items in
    let set = c.in_ok-set_walks-in-Unknown.ensures in (
      search rules,
      (
        right_set (neighbors_of (edges_of c.args.graph.now)) old new v Open set (λ n e. absurd (cc)) c.requires.right,
        λ u e. elim (known_set old new v Open set u) [
          | inl (same, _) ↦ (0, omega arith, ([], refl, ap Some same))
          | inr kept ↦ (let (n, low, walk) = c.requires.open u (sym kept ∙ e) in (n, omega arith, walk))
        ],
      ),
    )

pub longest_walk-returns-in-Open : goal.longest_walk-returns-in-Open
longest_walk-returns-in-Open t c =
    let (n, low, walk) = c.requires.open c.args.node.0 (search (rules, unwrap_or-slice_get c.args.known.now.items c.args.node.0 Unknown)) in
    level_around (neighbors_of (edges_of c.args.graph.now)) n c.args.node.0 low walk (suc c.args.most)

pub longest_walk-returns-then-steps-most : goal.longest_walk-returns-then-steps-most
longest_walk-returns-then-steps-most t c =
    let below = neighbors_of (edges_of c.args.graph.now) in
    let steps = c.in-Longest.steps in
    let known : walks_from c.args.known.now.items c.args.node.0 ≡ Longest steps = search (rules, unwrap_or-slice_get c.args.known.now.items c.args.node.0 Unknown) in
    level_few below (suc c.args.most) steps c.args.node.0 (omega (arith, c.if-steps-most.true)) (c.requires.right c.args.node.0 steps known).some

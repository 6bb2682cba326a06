use Rattle.trees.proofs.Common.{◌≡◌, ◌∙◌, ℕ, true, get_or, map, sym, ap, ap₂, subst, arith, rules, Bor, filter, not-true, not-false, map_push, map_twice}
use Rattle.std.proofs.lemmas.Map.Iter.{iter_end}
use Rattle.std.specs.BTreeMap.Range.{range_contains}
use Rattle.std.specs.Map.Iter.{deref}
use Rattle.std.specs.declared.ops.Bound.TheVariants.{Included}
use Rattle.trees.specs.DependingParts.{edge_cmp}
use Rattle.trees.proofs.Marks.{MarksAll, marks_none, marks_new, marks_same}
use Rattle.trees.proofs.Reached.{edges_from, needs_marked}
use Rattle.trees.proofs.deps.tops.mark_needs.Goals as goal

pub loop-to-init : goal.loop-to-init
loop-to-init c = marks_none c.args.reached.now c.args.left.now.items

pub loop-to-preserved-in-Continue-1 : goal.loop-to-preserved-in-Continue-1
loop-to-preserved-in-Continue-1 c =
    let e = c.in-Some.field-0 in
    let new = not-true (get_or c.loop-to.reached e.now.1 true) (sym c.mark.ensures.new ∙ c.if-mark.true) in
    rw (map_push (λ (d : Bor (ℕ × ℕ)). d.now.1) c.loop-to.yielded e, c.mark.ensures.marked, c.in_ok-push.ensures.items) (marks_new _ _ _ _ _ e.now.1 c.loop-to.invariant new)

pub loop-to-preserved : goal.loop-to-preserved
loop-to-preserved c =
    let e = c.in-Some.field-0 in
    let same = not-false (get_or c.loop-to.reached e.now.1 true) (sym c.mark.ensures.new ∙ c.if-mark.false) in
    rw (map_push (λ (d : Bor (ℕ × ℕ)). d.now.1) c.loop-to.yielded e, c.mark.ensures.marked) (marks_same _ _ _ _ _ e.now.1 c.loop-to.invariant same)

pub returns : goal.returns
returns c =
    let keys = c.args.network.now.sorted.keys in
    let node = c.args.node in
    let most : ℕ = 18446744073709551615 in
    let inside = λ (x y : ℕ × ℕ). filter (range_contains edge_cmp (Included x) (Included y)) keys in
    let between : c.range-to-items.result ≡ edges_from keys node most = c.range-to-items.ensures.between (search rules) ∙ ap₂ inside (search rules) (search rules) in
    let all = (iter_end deref (edges_from keys node most) c.loop-to.yielded c.into_iter-to-iterator.result c.loop-to.to-iterator c.next.new.self c.next.result (c.into_iter-to-iterator.ensures.into_iter_gives ∙ between) c.loop-to.yielded_by c.in-None.is c.next.ensures.steps).0 in
    let needs = map_twice deref (λ (e : ℕ × ℕ). e.1) c.loop-to.yielded ∙ ap (map (λ (e : ℕ × ℕ). e.1)) all in
    needs_marked keys node most c.args.reached.now _ _ _ (omega arith) (subst (λ ns. MarksAll ns c.args.reached.now c.loop-to.reached c.args.left.now.items c.loop-to.left.items) needs c.loop-to.invariant)

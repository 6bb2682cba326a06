use Rattle.std.proofs.Common.{◌≡◌, ◌∙◌, ◌∷◌, [], ◌++◌, inl, inr, false, length, vec_len, eqb-true, eq-eqb, string_bytes, ap, sym, refl, arith, rules}
use Rattle.std.proofs.lemmas.Bool.{false≢true}
use Rattle.std.proofs.lemmas.Fn.{says_at}
use Rattle.ptree.specs.declared.item.StringItem.{StringItem, out-StringItem}
use Rattle.ptree.specs.declared.item.StringItem.TheOpen.{StringItem-F}
use Rattle.ptree.specs.Tree.{tree_of, trees}
use Rattle.ptree_trees.specs.Change.{kept_forest}
use Rattle.ptree_trees.proofs.Changes.{next_is_kept, next_is_not_kept, item_not_kept, item_kept}
use Rattle.ptree_trees.proofs.change.+kept_item.Goals as goal
use Rattle.ptree_trees.proofs.change.+kept_item.Goals.{in-Some+in_ok-push, in_default, else-is_empty-via-then-is_empty+else-not-passes, else-is_empty-via-else-is_empty}

pub loop-child-preserved : goal.loop-child-preserved
loop-child-preserved g t c = λ test tests.
    let xs = c.deref-child-items.result.now in
    let i = c.loop-child.child-index in
    let x = c.child-item.result in
    let kept = c.loop-child.children.items in
    let new = c.match-branch-2.children.items in
    let all = trees (kept_forest test (tree_of c.args.item.now).children) in
    elim c.match-branch-2.branch [
      | in-Some+in_ok-push w ↦ (
          let k = w.in-Some.kept in
          let made : new ≡ kept ++ k ∷ [] = ap (λ v. v.items) w.children-is ∙ w.in_ok-push.ensures.items in
          next_is_kept test tree_of xs kept new i x k c.in_ok-kept.field-0 all c.loop-child-test.true c.child-item.is w.in-Some.is made
          (c.in_ok-kept.ensures test tests) (c.loop-child.invariant test tests))
      | in_default w ↦ (
          let made : new ≡ kept = ap (λ v. v.items) w.children-is in
          next_is_not_kept test tree_of xs kept new i x c.in_ok-kept.field-0 all c.loop-child-test.true c.child-item.is w.in_default.is made
          (c.in_ok-kept.ensures test tests) (c.loop-child.invariant test tests))
    ]

pub returns-then-not-passes : goal.returns-then-not-passes
returns-then-not-passes g t c = λ test tests.
    let item = c.args.item.now in
    let children = c.loop-child.children in
    let count : length children.items ≡ 0 = omega (arith, eqb-true (vec_len children) 0 (sym c.is_empty.ensures ∙ c.if-is_empty.true), children.ok.0) in
    let own : c.passes.result ≡ test c.as_str.result.now = tests c.as_str.result.now c.passes.result (says_at g.F.Fn c.passes.ensures refl) in
    let fails : test (string_bytes (out-StringItem item).text) ≡ false = sym (ap test c.as_str.ensures.value) ∙ sym own ∙ c.if-not-passes.true in
    item_not_kept test item c.deref-child-items.result.now children.items c.loop-child.child-index c.loop-child-test.false (c.loop-child.invariant test tests) count fails

pub returns : goal.returns
returns g t c = λ test tests.
    let item = c.args.item.now in
    let children = c.loop-child.children in
    let made : StringItem-F StringItem = record { text = c.in_ok-clone.field-0; children = children } in
    let whole =
    item_kept test item c.deref-child-items.result.now made c.loop-child.child-index c.loop-child-test.false (c.loop-child.invariant test tests) (search rules) in
    elim c.else-is_empty.branch [
      | else-is_empty-via-then-is_empty+else-not-passes w ↦ (
          let own : w.passes.result ≡ test w.as_str.result.now = tests w.as_str.result.now w.passes.result (says_at g.F.Fn w.passes.ensures refl) in
          whole (inl (sym (ap test w.as_str.ensures.value) ∙ sym own ∙ w.if-not-passes.false)))
      | else-is_empty-via-else-is_empty w ↦ (
          let some = λ (e : length children.items ≡ 0). false≢true (sym w.if-is_empty.false ∙ c.is_empty.ensures ∙ eq-eqb (vec_len children) 0 (omega (arith, children.ok.0))) in
          whole (inr some))
    ]

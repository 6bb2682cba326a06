use Rattle.std.specs.Prelude.{option_map}
use Rattle.std.proofs.Common.{◌≡◌, ◌∙◌, suc, ◌⊎◌, inl, inr, [], ◌∷◌, ◌++◌, Some, None, ap, sym, subst, rules, arith}
use Rattle.std.proofs.lemmas.List.{reverse-append}
use Rattle.ptree.specs.ReadItems.{item_line, read_text_of}
use Rattle.ptree.specs.Scanned.{IsError}
use Rattle.ptree_trees.specs.declared.difference.Found.TheVariants.{Nothing, Difference as Differ}
use Rattle.ptree_trees.specs.Found.{FindsIn, HasLeft, IsOtherReadOn, first_below}
use Rattle.ptree_trees.proofs.ItemDifferences.{roots_differ, so_far_end, so_far_differ}
use Rattle.ptree_trees.proofs.ItemsLeft.{next_left, root_line, same_start, same_next, same_more, differ_by_test, not_below, one_below}
use Rattle.ptree_trees.proofs.difference.+find_from.Goals as goal
use Rattle.ptree_trees.proofs.difference.+find_from.Goals.{then-loop-right-test+else-is_below, else-loop-right-test, else-not-is_below-via-then-not-is_below+else-not-is_below-2, else-not-is_below-via-else-not-is_below}

pub returns-then-ne-clause-found : goal.returns-then-ne-clause-found
returns-then-ne-clause-found s c look depth x y n t u l r lines others h g a b =
    let own = next_left look depth x c.args.left.now c.next_item.new.self lines (Some c.in-Some.own) h (λ done read. rw c.in-Some.is at c.in_ok-own.ensures.next look depth x done read) in
    let right = next_left look depth y c.args.right.now c.next_item-2.new.self others (Some c.in-Ok-Some.other) g (λ done read. rw c.in-Ok-Some.field-0-is at c.in-Ok-Some.ensures.next look depth y done read) in
    let p = root_line n t l lines own.0 c.in-Some.own a own.1 in
    let q = root_line n u r others right.0 c.in-Ok-Some.other b right.1 in
    let other = differ_by_test c.as_str.result.now c.as_str-2.result.now c.ne.result c.ne.ensures c.if-ne.true in
    subst (FindsIn look depth x y c.next_item.new.self c.next_item-2.new.self l r t u) (sym c.differ_at.ensures)
    (rw (c.new-address.ensures.items, c.new-above.ensures.items) (roots_differ t u (read_text_of c.in-Some.own.text) (read_text_of c.in-Ok-Some.other.text) p.1 q.1 (λ e. other (c.as_str.ensures ∙ e ∙ sym c.as_str-2.ensures))))

pub loop-right-init : goal.loop-right-init
loop-right-init s c = record {
  fewer = search rules;
  few = search rules;
  left = λ look depth x r. (r.0 ++ item_line c.in-Some.own ∷ [], rw c.in-Some.is at c.in_ok-own.ensures.next look depth x r.0 r.1);
  right = λ look depth x r. (r.0 ++ item_line c.in-Ok-Some.other ∷ [], rw c.in-Ok-Some.field-0-is at c.in-Ok-Some.ensures.next look depth x r.0 r.1);
  same = λ look depth x y n t u rest more lines others h g a b.
      let same : read_text_of c.in-Some.own.text ≡ read_text_of c.in-Ok-Some.other.text = search rules in
      same_start look depth x y c.next_item.new.self c.next_item-2.new.self n t u rest more lines others c.in-Some.own c.in-Ok-Some.other
      (next_left look depth x c.args.left.now c.next_item.new.self lines (Some c.in-Some.own) h (λ done read. rw c.in-Some.is at c.in_ok-own.ensures.next look depth x done read))
      (next_left look depth y c.args.right.now c.next_item-2.new.self others (Some c.in-Ok-Some.other) g (λ done read. rw c.in-Ok-Some.field-0-is at c.in-Ok-Some.ensures.next look depth y done read)) a b same;
}

pub loop-right-preserved : goal.loop-right-preserved
loop-right-preserved s c =
    let v = c.loop-right.invariant in
    record {
      fewer = let less = c.in_ok-find_from.ensures.fewer in omega (arith, v.fewer, less);
      few = let less = c.in_ok-find_from.ensures.fewer in omega (arith, v.few, less);
      left = λ look depth x r. c.in_ok-find_from.ensures.left look depth x (v.left look depth x r);
      right = λ look depth x r. rw c.in-Nothing.is at c.in_ok-find_from.ensures.right look depth x (v.right look depth x r);
      same = λ look depth x y n t u rest more lines others h g a b.
          let was = v.same look depth x y n t u rest more lines others h g a b in
          let next = same_next look depth x y n t u c.loop-right.i rest more _ _ c.loop-right.left c.loop-right.right was ((c.is_below.ensures.below look depth x was.lines was.lines_left).0 c.loop-right-test.true) ((c.is_below-in-loop-right.ensures.below look depth y was.others was.others_left).0 c.if-is_below.true) in
          let found : FindsIn look depth x y c.find_from.new.left c.find_from.new.right next.behind_child next.behind_other next.child next.other Nothing = (rw c.in-Nothing.is at c.in_ok-find_from.ensures.found look depth x y) (suc n) next.child next.other next.behind_child next.behind_other was.lines was.others was.lines_left was.others_left next.child_here next.other_here in
          same_more look depth x y n t u c.loop-right.i rest more _ _ c.loop-right.left c.loop-right.right c.find_from.new.left c.find_from.new.right was next found;
    }

pub returns-in_err-find_from-clause-left : goal.returns-in_err-find_from-clause-left
returns-in_err-find_from-clause-left s c look depth x r =
    let error : IsError look depth x c.in_err-find_from.field-0.0 = c.in_err-find_from.ensures.left look depth x (c.loop-right.invariant.left look depth x r) in
    search (rules, error)

pub returns-in-Difference-clause-right : goal.returns-in-Difference-clause-right
returns-in-Difference-clause-right s c look depth x r = rw c.in-Difference.is at c.in_ok-find_from.ensures.right look depth x (c.loop-right.invariant.right look depth x r)

pub returns-in-Difference-clause-found : goal.returns-in-Difference-clause-found
returns-in-Difference-clause-found s c look depth x y n t u rest more lines others h g a b =
    let i = c.loop-right.i in
    let d = c.in-Difference.below in
    let was = c.loop-right.invariant.same look depth x y n t u rest more lines others h g a b in
    let next = same_next look depth x y n t u i rest more _ _ c.loop-right.left c.loop-right.right was ((c.is_below.ensures.below look depth x was.lines was.lines_left).0 c.loop-right-test.true) ((c.is_below-in-loop-right.ensures.below look depth y was.others was.others_left).0 c.if-is_below.true) in
    let found : FindsIn look depth x y c.find_from.new.left c.find_from.new.right next.behind_child next.behind_other next.child next.other (Differ d) = (rw c.in-Difference.is at c.in_ok-find_from.ensures.found look depth x y) (suc n) next.child next.other next.behind_child next.behind_other was.lines was.others was.lines_left was.others_left next.child_here next.other_here in
    let address : c.push.new.self.items ≡ d.address.items ++ i ∷ [] = search rules in
    let above = c.in_ok-push-in-Difference-2.ensures.items in
    rw (address, above, reverse-append d.address.items (i ∷ []), reverse-append d.above.items (_ ∷ []), was.text_is) (next.below d found)

pub returns-in-Wrong-clause-right : goal.returns-in-Wrong-clause-right
returns-in-Wrong-clause-right s c look depth x r = rw c.in-Wrong.is at c.in_ok-find_from.ensures.right look depth x (c.loop-right.invariant.right look depth x r)

pub returns-in_err-a-clause-left : goal.returns-in_err-a-clause-left
returns-in_err-a-clause-left s c look depth x r =
    let error : IsError look depth x c.in_err-a.field-0.0 = c.in_err-a.ensures.reading look depth x (c.loop-right.invariant.left look depth x r) in
    search (rules, error)

pub returns-in-Err-text_below-clause-right : goal.returns-in-Err-text_below-clause-right
returns-in-Err-text_below-clause-right s c look depth x r = c.in-Err-text_below.ensures.reading look depth x (c.loop-right.invariant.right look depth x r)

pub returns-then-not-is_below-2-clause-found : goal.returns-then-not-is_below-2-clause-found
returns-then-not-is_below-2-clause-found s c look depth x y n t u l r lines others h g a b =
    let was = c.loop-right.invariant.same look depth x y n t u l r lines others h g a b in
    let level = c.in-Some.own.level in
    let left = not_below (first_below level was.lines) c.is_below-2.result (c.is_below-2.ensures.below look depth x was.lines was.lines_left) c.if-not-is_below.true in
    let right = not_below (first_below level was.others) c.is_below-then-not-is_below.result (c.is_below-then-not-is_below.ensures.below look depth y was.others was.others_left) c.if-not-is_below-2.true in
    let (same, l_is, r_is) = so_far_end was.so_far (sym (left ∙ ap (λ m. first_below m was.lines) was.level_is)) (sym (right ∙ ap (λ m. first_below m was.others) was.level_is)) in
    (same, subst (HasLeft look depth x c.loop-right.left) l_is was.lines_left, subst (HasLeft look depth y c.loop-right.right) r_is was.others_left)

pub returns-clause-right : goal.returns-clause-right
returns-clause-right s c look depth x r =
    let read = c.in-Ok.ensures.reading look depth x (c.loop-right.invariant.right look depth x r) in
    subst (IsOtherReadOn look depth x c.text_below-2.new.reader) (sym c.differ_at-2.ensures) read

pub returns-clause-found : goal.returns-clause-found
returns-clause-found s c look depth x y n t u l r lines others h g a b =
    let was = c.loop-right.invariant.same look depth x y n t u l r lines others h g a b in
    let level = c.in-Some.own.level in
    let here = c.in_ok-a.ensures.text look depth x was.lines was.lines_left in
    let there = c.in-Ok.ensures.text look depth y was.others was.others_left in
    let one : (None ≡ first_below level was.lines) ⊎ (None ≡ first_below level was.others) = elim c.loop-right-test.branch [
      | then-loop-right-test+else-is_below w ↦ inr (not_below (first_below level was.others) w.is_below-in-loop-right.result (w.is_below-in-loop-right.ensures.below look depth y was.others was.others_left) w.if-is_below.false)
      | else-loop-right-test w ↦ inl (not_below (first_below level was.lines) c.is_below.result (c.is_below.ensures.below look depth x was.lines was.lines_left) w.loop-right-test.false)
    ] in
    let some : c.in_ok-a.a ≡ None → c.in-Ok.b ≡ None → ⊥ = elim c.else-not-is_below.branch [
      | else-not-is_below-via-else-not-is_below w ↦ λ p _. (c.is_below-2.ensures.below look depth x was.lines was.lines_left).0 w.if-not-is_below.false (sym here ∙ ap (option_map read_text_of) p)
      | else-not-is_below-via-then-not-is_below+else-not-is_below-2 w ↦ λ _ q. (w.is_below-then-not-is_below.ensures.below look depth y was.others was.others_left).0 w.if-not-is_below-2.false (sym there ∙ ap (option_map read_text_of) q)
    ] in
    let other = one_below level was.lines was.others c.in_ok-a.a c.in-Ok.b here there some one in
    let left : option_map read_text_of c.in_ok-a.a ≡ first_below n was.lines = here ∙ ap (λ m. first_below m was.lines) was.level_is in
    let right : option_map read_text_of c.in-Ok.b ≡ first_below n was.others = there ∙ ap (λ m. first_below m was.others) was.level_is in
    let first = so_far_differ was.so_far (λ e. other (sym here ∙ (left ∙ e ∙ sym right) ∙ there)) in
    subst (FindsIn look depth x y c.text_below.new.reader c.text_below-2.new.reader l r t u) (sym c.differ_at-2.ensures)
    (rw (c.in_ok-address.ensures.items, c.in_ok-above.ensures.items, was.text_is, left, right) first)

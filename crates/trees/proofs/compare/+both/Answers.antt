use Rattle.trees.proofs.Common.{◌≡◌, ◌∙◌, ◌+◌, ◌-◌, ◌++◌, [], ◌∷◌, get_or, refl, List, None, map, drop, length, ap, sym, subst, arith, rules, string_bytes, slice_range, IfOk-weaker, StringItem, out-StringItem, Forest, tree_of, forest, item_text, left_more, HasParts}
use Rattle.std.proofs.lemmas.List.{drop_all, take_all, length-drop}
use Rattle.trees.specs.declared.compare.Side.TheVariants.{Right}
use Rattle.trees.specs.MergingParts.{IsFoundAt, LacksText}
use Rattle.trees.specs.Merging.{styled_tree_of, marked_tree, styled_forest, roots_text, ShowsBoth, ShowsMerge}
use Rattle.trees.proofs.Merges.{passed_apart, rest_apart, forest_below, pushed_shown, whole_both, items_passed, text_found, step_both, step_left, step_end}
use Rattle.trees.proofs.compare.+both.Goals.{both_children-in-Some+in_ok-push_right-in-Some+in_ok-both-in-Some+in_ok-push-in-Some, both_children-in-None+in_ok-marked-in-None+in_ok-push-in-None}
use Rattle.trees.proofs.compare.+both.Goals as goal

pub both-returns : goal.both-returns
both-returns t c =
    let look = c.args.look in
    let left = tree_of c.args.left.now in
    let right = tree_of c.args.right.now in
    let text = c.as_str-3.result.now in
    let children = c.in_ok-children.children.items in
    let own : text ≡ roots_text look (string_bytes (out-StringItem c.args.left.now).text) (string_bytes (out-StringItem c.args.right.now).text) = search rules in
    let texts : text ≡ roots_text look left.text right.text = rw (item_text c.args.left.now, item_text c.args.right.now) own in
    IfOk-weaker c.new.result (HasParts text None children) (λ s. ShowsBoth look left right (styled_tree_of s)) (λ s has. whole_both look left right s text children has texts c.in_ok-children.ensures) (search rules)

pub both_children-loop-child-preserved : goal.both_children-loop-child-preserved
both_children-loop-child-preserved t c =
    let look = c.args.look in
    let xs = c.deref-child-items.result.now in
    let ys = c.as_slice-others.result.now in
    let taken = c.loop-child.taken in
    let x = c.child-item.result in
    let text = c.as_str.result.now in
    let made = map styled_tree_of c.loop-child.made.items in
    let new = map styled_tree_of c.match-branch-2.made.items in
    let before = c.loop-child.invariant in
    let kept : c.next_with.new.self.items.now ≡ ys = c.in_ok-at.ensures.kept ∙ before.items in
    let first = left_more tree_of xs c.loop-child.child-index x c.loop-child-test.true c.child-item.is in
    let own : (tree_of x).text ≡ text = item_text x ∙ sym c.as_str.ensures.value in
    elim c.match-branch-2.branch [
      | both_children-in-Some+in_ok-push_right-in-Some+in_ok-both-in-Some+in_ok-push-in-Some w ↦
          let at = w.in-Some.at in
          let y = w.index-others-at.result in
          let s = w.in_ok-both-in-Some.field-0 in
          let found : IsFoundAt ys taken text at = subst (λ (zs : List StringItem). IsFoundAt zs taken text at) before.items (rw w.in-Some.is at c.in_ok-at.ensures.found) in
          let over = slice_range ys taken at in
          let pushed : c.match-branch-2.made.items ≡ w.push_right.new.made.items ++ s ∷ [] = ap (λ v. v.items) w.made-is ∙ w.in_ok-push-in-Some.ensures.items in
          let is : y ≡ get_or ys at y = w.index-others-at.is in
          let next : c.match-branch-2.taken ≡ at + 1 = search rules in
          let texts = own ∙ text_found ys at y text found.within is found.same in
          rw next (record {
            within = omega (arith, found.within);
            items = kept;
            shows = step_both look (map tree_of xs) (map tree_of ys) (tree_of x) (tree_of y) (map tree_of over) _ _ _ _ (styled_tree_of s) made new first (items_passed ys taken at y found.behind found.within is)
                (pushed_shown w.push_right.new.made.items c.match-branch-2.made.items s _ pushed (search rules)) texts
                (passed_apart ys taken at text (tree_of x).text found.behind (omega (arith, found.within)) found.first own) w.in_ok-both-in-Some.ensures before.shows;
          })
      | both_children-in-None+in_ok-marked-in-None+in_ok-push-in-None w ↦
          let s = w.in_ok-marked-in-None.field-0 in
          let lacks = subst (λ (zs : List StringItem). LacksText zs taken (length zs) text) before.items (rw w.in-None.is at c.in_ok-at.ensures.found) in
          let pushed : c.match-branch-2.made.items ≡ c.loop-child.made.items ++ s ∷ [] = ap (λ v. v.items) w.made-is ∙ w.in_ok-push-in-None.ensures.items in
          rw w.taken-is (record {
            within = before.within;
            items = kept;
            shows = step_left look (map tree_of xs) (map tree_of ys) (tree_of x) _ _ _ (styled_tree_of s) made new first (pushed_shown c.loop-child.made.items c.match-branch-2.made.items s made pushed refl) (search rules)
                (rest_apart ys taken text (tree_of x).text before.within lacks own) before.shows;
          })
    ]

pub both_children-returns : goal.both_children-returns
both_children-returns t c =
    let look = c.args.look in
    let xs = c.deref-child-items.result.now in
    let ys = c.as_slice-others.result.now in
    let taken = c.loop-child.taken in
    let made = map styled_tree_of c.loop-child.made.items in
    let new = map styled_tree_of c.push_right-2.new.made.items in
    let over = slice_range ys taken (length ys) in
    let rest : over ≡ drop taken ys = take_all (length ys - taken) (drop taken ys) (omega (arith, length-drop taken ys)) in
    let passed : new ≡ made ++ map (marked_tree look Right) (map tree_of over) = search rules in
    let pushed = passed ∙ ap (λ (zs : List StringItem). made ++ map (marked_tree look Right) (map tree_of zs)) rest in
    let all = step_end look (map tree_of xs) (map tree_of ys) _ _ made new (ap (map tree_of) (drop_all c.loop-child.child-index xs c.loop-child-test.false)) pushed c.loop-child.invariant.shows in
    subst (λ (f : Forest). ShowsMerge look f (tree_of c.args.right.now).children (styled_forest new)) (forest_below c.args.left.now xs c.deref-child-items.ensures.value)
    (subst (λ (f : Forest). ShowsMerge look (forest (map tree_of xs)) f (styled_forest new)) (forest_below c.args.right.now ys c.as_slice-others.ensures.value) all)

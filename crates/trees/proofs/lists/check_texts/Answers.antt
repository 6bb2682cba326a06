use Rattle.trees.proofs.Common.{rules, ◌≡◌, ◌∙◌, [], map, subst, sym, AllByRecursion, Line, outline, tree_of}
use Rattle.ptree.proofs.Trees.OutlineItems.{item_tree, item_line, item_text, lines_of_items}
use Rattle.trees.specs.Outlining.{text_or, IsKeptText, AreKeptTexts}
use Rattle.trees.proofs.OutlineTexts.{text_or_is}
use Rattle.trees.proofs.OutlinesBack.{same_kept, all_more, all_not, all_kept}
use Rattle.trees.proofs.Readings.{fails_by_input}
use Rattle.trees.proofs.lists.check_texts.Goals as goal

pub returns-in-Some-wrong_text-clause-failed : goal.returns-in-Some-wrong_text-clause-failed
returns-in-Some-wrong_text-clause-failed c =
    let xs = c.deref-entry-items.result.now in
    let x = c.entry-item.result in
    let t = tree_of c.args.tree.now in
    let bullet = c.args.bullet in
    let Is : Line → Type 0 = λ l. IsKeptText (text_or bullet []) l.text in
    let lines : map item_line xs ≡ outline t = lines_of_items item_tree xs _ t c.deref-entry-items.ensures.value c.in_ok-items.ensures in
    let same : c.unwrap_or.result.now ≡ text_or bullet [] = search (rules, text_or_is bullet) in
    let text : (tree_of x.1.now).text ≡ c.as_str-in-loop-i.result.now = item_text x.1.now ∙ sym c.as_str-in-loop-i.ensures.value in
    fails_by_input (AreKeptTexts bullet t → ⊥) ⊥ c.in_ok-wrong_at-2.field-0 c.in_ok-wrong_at-2.ensures.input (λ kept.
    all_not Is item_line xs c.loop-i.i x (map item_line xs) c.loop-i-test.true c.entry-item.is
    (λ k. c.in-Some-wrong_text.ensures (same_kept (text_or bullet []) c.unwrap_or.result.now (tree_of x.1.now).text c.as_str-in-loop-i.result.now (sym same) text k))
    c.loop-i.invariant (subst (AllByRecursion Is) (sym lines) kept.texts))

pub loop-i-preserved : goal.loop-i-preserved
loop-i-preserved c =
    let xs = c.deref-entry-items.result.now in
    let x = c.entry-item.result in
    let bullet = c.args.bullet in
    let Is : Line → Type 0 = λ l. IsKeptText (text_or bullet []) l.text in
    let same : c.unwrap_or.result.now ≡ text_or bullet [] = search (rules, text_or_is bullet) in
    let text : (tree_of x.1.now).text ≡ c.as_str-in-loop-i.result.now = item_text x.1.now ∙ sym c.as_str-in-loop-i.ensures.value in
    all_more Is item_line xs c.loop-i.i x (map item_line xs) c.loop-i-test.true c.entry-item.is
    (same_kept c.unwrap_or.result.now (text_or bullet []) c.as_str-in-loop-i.result.now (tree_of x.1.now).text same (sym text) c.in_default-wrong_text.ensures) c.loop-i.invariant

pub returns-clause-kept : goal.returns-clause-kept
returns-clause-kept c =
    let xs = c.deref-entry-items.result.now in
    let t = tree_of c.args.tree.now in
    let lines : map item_line xs ≡ outline t = lines_of_items item_tree xs _ t c.deref-entry-items.ensures.value c.in_ok-items.ensures in
    all_kept c.args.bullet xs c.loop-i.i t c.as_str.result.now c.loop-i-test.false c.loop-i.invariant lines (item_text c.args.tree.now ∙ sym c.as_str.ensures.value) c.in_default.ensures

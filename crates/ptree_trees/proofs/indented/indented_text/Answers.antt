use Rattle.std.proofs.Common.{◌≡◌, ℕ, List, ◌++◌, ◌∙◌, map, ap, sym, subst, string_bytes}
use Rattle.std.proofs.lemmas.Bool.{false≢true}
use Rattle.ptree.specs.Outline.{line, outline}
use Rattle.ptree.specs.Tree.{tree_of}
use Rattle.ptree_trees.specs.Indented.{IsLineText, AreLineTexts, indented_line}
use Rattle.ptree.proofs.Trees.OutlineItems.{item_tree, item_line, item_text, lines_of_items}
use Rattle.ptree_trees.proofs.IndentedWriting.{write_more, texts_more, texts_not, write_all}
use Rattle.ptree_trees.proofs.indented.indented_text.Goals as goal

pub returns-then-not-is_item_text-clause-text : goal.returns-then-not-is_item_text-clause-text
returns-then-not-is_item_text-clause-text c = λ _ h.
    let xs = c.deref-entry-items.result.now in
    let x = c.entry-item.result in
    let t = tree_of c.args.item.now in
    let bullet : List ℕ = c.args.form.now.bullet.now in
    let lines : map item_line xs ≡ outline t = lines_of_items item_tree xs _ t c.deref-entry-items.ensures.value c.in_ok-items.ensures in
    let text : (tree_of x.1.now).text ≡ c.as_str.result.now = item_text x.1.now ∙ sym c.as_str.ensures.value in
    texts_not c.args.form.now item_line xs c.loop-entry.entry-index x (map item_line xs) c.loop-entry-test.true c.entry-item.is
    (λ k. false≢true (sym c.if-not-is_item_text.true ∙ c.is_item_text.ensures.1 (subst (λ z. IsLineText (bullet ++ z)) text k)))
    c.loop-entry.invariant.1 (subst (AreLineTexts c.args.form.now) (sym lines) h)

pub loop-entry-preserved : goal.loop-entry-preserved
loop-entry-preserved c =
    let xs = c.deref-entry-items.result.now in
    let x = c.entry-item.result in
    let i = c.loop-entry.entry-index in
    let form = c.args.form.now in
    let bullet : List ℕ = form.bullet.now in
    let old : List ℕ = string_bytes c.loop-entry.text in
    let text : (tree_of x.1.now).text ≡ c.as_str.result.now = item_text x.1.now ∙ sym c.as_str.ensures.value in
    let again : (tree_of x.1.now).text ≡ c.as_str-in-loop-entry.result.now = item_text x.1.now ∙ sym c.as_str-in-loop-entry.ensures.value in (
      write_more form old (string_bytes c.push_line.new.out) item_line xs i x _ c.loop-entry-test.true c.entry-item.is c.loop-entry.invariant.0
          (c.in_ok-push_line.ensures ∙ ap (λ z. old ++ indented_line form (line x.0 z)) (sym again)),
      texts_more form item_line xs i x (map item_line xs) c.loop-entry-test.true c.entry-item.is
          (subst (λ z. IsLineText (bullet ++ z)) (sym text) (c.is_item_text.ensures.0 c.if-not-is_item_text.false)) c.loop-entry.invariant.1,
    )

pub returns-clause-form : goal.returns-clause-form
returns-clause-form c =
    let xs = c.deref-entry-items.result.now in
    let t = tree_of c.args.item.now in
    let lines : map item_line xs ≡ outline t = lines_of_items item_tree xs _ t c.deref-entry-items.ensures.value c.in_ok-items.ensures in
    write_all c.args.form.now (string_bytes c.loop-entry.text) item_line xs c.loop-entry.entry-index c.loop-entry-test.false
    c.loop-entry.invariant.0 c.loop-entry.invariant.1 (outline t) lines

use Rattle.trees.proofs.Common.{Bool, false, IfOk, string_bytes, sym, refl, subst, IfOk-weaker, tree_of, IsIndentedForm}
use Rattle.trees.specs.Writing.{IsShownForm, AreShownTexts}
use Rattle.trees.proofs.lists.shown_form.Goals as goal

pub returns-then-is_terminal-clause-form : goal.returns-then-is_terminal-clause-form
returns-then-is_terminal-clause-form c =
    subst (λ (b : Bool). IfOk c.escaped_form.result (λ s. IsShownForm b c.args.form.now.unit.now c.args.form.now.bullet.now (tree_of c.args.tree.now) (string_bytes s))) (sym c.if-is_terminal.true) c.escaped_form.ensures.form

pub returns-clause-form : goal.returns-clause-form
returns-clause-form c =
    let form = c.args.form.now in
    let t = tree_of c.args.tree.now in
    subst (λ (b : Bool). IfOk c.indented_text.result (λ s. IsShownForm b form.unit.now form.bullet.now t (string_bytes s))) (sym c.if-is_terminal.false)
    (IfOk-weaker c.indented_text.result (λ s. IsIndentedForm form (string_bytes s) t) (λ s. IsShownForm false form.unit.now form.bullet.now t (string_bytes s)) (λ s is. (form, refl, refl, is)) c.indented_text.ensures.form)

pub returns-then-is_terminal-clause-text : goal.returns-then-is_terminal-clause-text
returns-then-is_terminal-clause-text c = λ wrong fits.
    c.escaped_form.ensures.text wrong (subst (λ (b : Bool). AreShownTexts b c.args.form.now.bullet.now (tree_of c.args.tree.now)) c.if-is_terminal.true fits)

pub returns-clause-text : goal.returns-clause-text
returns-clause-text c = λ wrong fits.
    c.indented_text.ensures.text wrong (subst (λ (b : Bool). AreShownTexts b c.args.form.now.bullet.now (tree_of c.args.tree.now)) c.if-is_terminal.false fits)

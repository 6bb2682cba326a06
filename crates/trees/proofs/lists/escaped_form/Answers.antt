use Rattle.trees.proofs.Common.{◌≡◌, ◌++◌, List, ℕ, true, string_bytes, refl, sym, subst, rules, IfOk-weaker, AllByRecursion, Line, outline, escaped_text, mapped_tree, IsLineText, AreLineTexts, IsIndentedForm, Form}
use Rattle.ptree.specs.Tree.{Tree, tree_of}
use Rattle.trees.specs.Writing.{IsShownForm}
use Rattle.trees.proofs.lists.escaped_form.Goals as goal

pub returns : goal.returns
returns c =
    let t = tree_of c.args.tree.now in
    let form : Form = record { unit = c.args.form.now.unit; bullet = c.as_str.result } in
    let bullet : c.as_str.result.now ≡ escaped_text c.args.form.now.bullet.now = search rules in
    let shown : tree_of c.in_ok-tree.tree ≡ mapped_tree escaped_text t = search rules in
    record {
      form = IfOk-weaker c.indented_text.result (λ s. IsIndentedForm form (string_bytes s) (tree_of c.in_ok-tree.tree)) (λ s. IsShownForm true c.args.form.now.unit.now c.args.form.now.bullet.now t (string_bytes s))
          (λ s is. (form, refl, bullet, subst (IsIndentedForm form (string_bytes s)) shown is)) c.indented_text.ensures.form;
      text = λ wrong fits. c.indented_text.ensures.text wrong
          (subst (λ (u : Tree). AreLineTexts form (outline u)) (sym shown) (subst (λ (b : List ℕ). AllByRecursion (λ (l : Line). IsLineText (b ++ l.text)) (outline (mapped_tree escaped_text t))) (sym bullet) fits));
    }

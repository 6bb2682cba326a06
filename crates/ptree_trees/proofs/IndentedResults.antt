-- What the results of reading indented text are.
use Rattle.std.proofs.Common.{◌≡◌, ℕ, List, [], ◌∷◌, ◌++◌, Result, Ok, Err}
use Rattle.std.proofs.Common.{refl, sym, ap, ◌∙◌, subst}
use Rattle.std.proofs.lemmas.List.{append-nil}
use Rattle.std.specs.Prelude.{IfOk, IsErrOf, IsOkUnless}
use Rattle.ptree.specs.Outline.{Line, outline}
use Rattle.ptree.specs.Tree.{Tree, tree_of}
use Rattle.ptree.specs.declared.item.StringItem.{StringItem}
use Rattle.ptree.proofs.Reading.FirstLines.{first_rest}
use Rattle.ptree.proofs.Drawing.Inserted.{feed_not_empty}
use Rattle.ptree.proofs.Trees.Outlines.{same_tree}
use Rattle.ptree_trees.specs.Indented.{IsUnit, indented_lines}
use Rattle.ptree_trees.specs.Indented.{IsIndentedForm, IsFirstWrongLine, EndsWrong}
use Rattle.ptree_trees.specs.IndentedReading.{IsReading}
use Rattle.ptree_trees.specs.declared.indented.Form.{Form}
use Rattle.ptree_trees.specs.declared.indented.IndentError.{IndentError}
use Rattle.ptree_trees.specs.declared.indented.IndentError.TheVariants as error
use Rattle.ptree_trees.proofs.IndentedLines.{line_parts, lines_front, whole}

-- trees with one indented form are equal
pub same_form : (form : Form) → IsUnit form.unit.now → (text : List ℕ) (t s : Tree) → IsIndentedForm form text t → IsIndentedForm form text s → t ≡ s
same_form form u text t s h k =
    let front = lines_front form u (outline t) (outline s) [] h.0 k.0 (append-nil (indented_lines form (outline t)) ∙ (sym h.1 ∙ k.1)) in
    same_tree t s (sym (front.lines ∙ (ap (λ z. outline t ++ z) (nothing front.others front.text) ∙ append-nil (outline t))))
  where
    nothing : (q : List Line) → [] ≡ indented_lines form q → q ≡ []
    nothing [] e = refl
    nothing (l ∷ q) e = absurd (feed_not_empty (whole form l) (indented_lines form q) (e ∙ line_parts form l (indented_lines form q)))

-- the indented form of a tree has no wrong line
no_wrong_line : (form : Form) (text : List ℕ) (n : ℕ) → IsFirstWrongLine form text n → (t : Tree) → IsIndentedForm form text t → ⊥
no_wrong_line form text n w t is = let cut = first_rest n text in w.wrong (t, cut.0, subst (λ z. IsIndentedForm form z t) cut.1 is)

-- a text that was read is the indented form of the result
pub reading_some : (form : Form) (text : List ℕ) (r : Result StringItem IndentError) → IsReading form text r → IfOk r (λ t. IsIndentedForm form text (tree_of t))
reading_some form text (Ok t) h = h
reading_some form text (Err e) h = tt

-- an indented form is read as its tree, unless memory runs out
pub reading_back : (form : Form) → IsUnit form.unit.now → (text : List ℕ) (r : Result StringItem IndentError) → IsReading form text r → (t : Tree) → IsIndentedForm form text t
    → IsOkUnless r error.Memory × IfOk r (λ s. tree_of s ≡ t)
reading_back form u text (Ok s) h t is = (tt, same_form form u text (tree_of s) t h is)
reading_back form u text (Err (error.Line n)) h t is = absurd (no_wrong_line form text n h t is)
reading_back form u text (Err error.End) h t is = absurd (h.wrong t is)
reading_back form u text (Err error.Memory) h t is = (refl, tt)

-- a line that was reported is the first wrong one
pub reading_line : (form : Form) (text : List ℕ) (r : Result StringItem IndentError) → IsReading form text r → (n : ℕ) → IsErrOf r (error.Line n) → IsFirstWrongLine form text n
reading_line form text r h n e = subst (λ z. IsReading form text z) e h

-- a text that was reported as incomplete is
pub reading_end : (form : Form) (text : List ℕ) (r : Result StringItem IndentError) → IsReading form text r → IsErrOf r error.End → EndsWrong form text
reading_end form text r h e = subst (λ z. IsReading form text z) e h

-- an error at a line is the result
pub reading_err : (form : Form) (text : List ℕ) (n : ℕ) (e : IndentError) → ((m : ℕ) → e ≡ error.Line m → m ≡ n) → (e ≡ error.Line n → IsFirstWrongLine form text n)
    → (e ≡ error.End → ⊥) → (r : Result StringItem IndentError) → r ≡ Err e → IsReading form text r
reading_err form text n e number wrong end r is = subst (λ z. IsReading form text z) (sym is) (at e number wrong end)
  where
    at : (e : IndentError) → ((m : ℕ) → e ≡ error.Line m → m ≡ n) → (e ≡ error.Line n → IsFirstWrongLine form text n) → (e ≡ error.End → ⊥) → IsReading form text (Err e)
    at (error.Line m) number wrong end = let same = number m refl in subst (λ z. IsFirstWrongLine form text z) (sym same) (wrong (ap error.Line same))
    at error.End number wrong end = absurd (end refl)
    at error.Memory number wrong end = tt

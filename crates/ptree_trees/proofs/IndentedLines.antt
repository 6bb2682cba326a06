-- The lines of an indented form, one by one.
use Rattle.std.proofs.Common.{◌≡◌, ◌≢◌, ℕ, false, List, [], ◌∷◌, ◌++◌}
use Rattle.std.proofs.Common.{refl, sym, ap, ◌∙◌, append_assoc}
use Rattle.std.proofs.lemmas.List.{append-nil, append_cancel_left}
use Rattle.std.proofs.lemmas.List.Elements.{All-append}
use Rattle.ptree.specs.Outline.{Line, line}
use Rattle.ptree.specs.Texts.{HasNoLineFeed}
use Rattle.ptree.proofs.Drawing.Inserted.{feed_not_empty}
use Rattle.ptree_trees.specs.Indented.{begins_blank, IsUnit, indent, indented_line, indented_lines, AreLineTexts}
use Rattle.ptree_trees.specs.declared.indented.Form.{Form}
use Rattle.ptree_trees.proofs.IndentedTexts.{line_once, no_feed_indent, indent_once}

-- what stands after the indent of a line: the bullet and its text
abbrev pub own : Form → List ℕ → List ℕ
own form t = form.bullet.now ++ t

-- a line without its line feed
abbrev pub whole : Form → Line → List ℕ
whole form l = indent form.unit.now l.level ++ own form l.text

-- one line more at the end
pub lines_push : (form : Form) (o : List Line) (l : Line) → indented_lines form (o ++ l ∷ []) ≡ indented_lines form o ++ indented_line form l
lines_push form [] l = append-nil (indented_line form l)
lines_push form (k ∷ o) l =
    ap (λ z. indented_line form k ++ z) (lines_push form o l) ∙ sym (append_assoc (indented_line form k) (indented_lines form o) (indented_line form l))

-- a line and what follows
pub line_parts : (form : Form) (l : Line) (x : List ℕ) → indented_line form l ++ x ≡ whole form l ++ 10 ∷ x
line_parts form l x =
    append_assoc (indent form.unit.now l.level) (own form l.text ++ 10 ∷ []) x
    ∙ (ap (λ z. indent form.unit.now l.level ++ z) (append_assoc (own form l.text) (10 ∷ []) x)
    ∙ sym (append_assoc (indent form.unit.now l.level) (own form l.text) (10 ∷ x)))

-- a line without its line feed holds none, if what stands after its indent doesn't
pub no_feed_join : (form : Form) → IsUnit form.unit.now → (l : Line) → HasNoLineFeed (own form l.text) → HasNoLineFeed (whole form l)
no_feed_join form u l h = All-append (λ c. c ≢ 10) (indent form.unit.now l.level) (own form l.text) (no_feed_indent form.unit.now u l.level) h

-- one line more that can stand after an indent
pub texts_push : (form : Form) (o : List Line) (l : Line) → AreLineTexts form o → HasNoLineFeed (own form l.text) → begins_blank (own form l.text) ≡ false
    → AreLineTexts form (o ++ l ∷ [])
texts_push form [] l h f b = ((f, b), tt)
texts_push form (k ∷ o) l h f b = (h.0, texts_push form o l h.1 f b)

-- what stands after lines of an indented form are its other lines
pub record HasOthers (form : Form) (o p : List Line) (y : List ℕ) : Type 0 where
  pub others : List Line
  pub lines : p ≡ o ++ others
  pub text : y ≡ indented_lines form others
  pub texts : AreLineTexts form others

-- lines of an indented form, and what follows the first of them
first_parts : (form : Form) (l : Line) (o : List Line) (y : List ℕ) → indented_lines form (l ∷ o) ++ y ≡ whole form l ++ 10 ∷ (indented_lines form o ++ y)
first_parts form l o y = append_assoc (indented_line form l) (indented_lines form o) y ∙ line_parts form l (indented_lines form o ++ y)

-- lines with one level and one text after the indent are one
same_line : (form : Form) (l m : Line) → l.level ≡ m.level → own form l.text ≡ own form m.text → l ≡ m
same_line form l m level text =
    ap (λ n. line n l.text) level ∙ ap (λ t. line m.level t) (append_cancel_left form.bullet.now l.text m.text text)

-- lines at the start of an indented form are its first lines
pub lines_front : (form : Form) → IsUnit form.unit.now → (o p : List Line) (y : List ℕ) → AreLineTexts form o → AreLineTexts form p
    → indented_lines form o ++ y ≡ indented_lines form p → HasOthers form o p y
lines_front form u [] p y h k e = record { others = p; lines = refl; text = e; texts = k }
lines_front form u (l ∷ o) [] y h k e = absurd (feed_not_empty (whole form l) (indented_lines form o ++ y) (sym e ∙ first_parts form l o y))
lines_front form u (l ∷ o) (m ∷ p) y h k e =
    let same = line_once (whole form l) (whole form m) (indented_lines form o ++ y) (indented_lines form p)
    (no_feed_join form u l h.0.0) (no_feed_join form u m k.0.0) (sym (first_parts form l o y) ∙ (e ∙ line_parts form m (indented_lines form p))) in
    let one = indent_once form.unit.now u l.level m.level (own form l.text) (own form m.text) h.0.1 k.0.1 same.0 in
    let heads : l ≡ m = same_line form l m one.level one.text in
    let rest = lines_front form u o p y h.1 k.1 same.1 in
    record {
      others = rest.others;
      lines = ap (λ z. z ∷ p) (sym heads) ∙ ap (λ z. l ∷ z) rest.lines;
      text = rest.text;
      texts = rest.texts;
    }

-- Trees as indented text.
use Rattle.std.specs.Prelude.{◌≡◌, ◌≢◌, ◌≤◌, ◌-◌, ℕ, zero, suc, ◌==◌}
use Rattle.std.specs.Prelude.{◌||◌, Bool, true, false, List, [], ◌∷◌, ◌++◌}
use Rattle.std.specs.List.{AllByRecursion}
use Rattle.ptree.specs.Continuation.{first_lines, line_count}
use Rattle.ptree.specs.Outline.{Line, outline}
use Rattle.ptree.specs.Texts.{line_feed, HasNoLineFeed}
use Rattle.ptree.specs.Tree.{Tree}
use Rattle.ptree_trees.specs.declared.indented.Form.{Form}

-- the byte is a blank or a tab
abbrev pub is_blank : ℕ → Bool
is_blank b = b == 32 || b == 9

-- the text begins with a blank or a tab
abbrev pub begins_blank : List ℕ → Bool
begins_blank [] = false
begins_blank (b ∷ t) = is_blank b

-- a unit is one or more blanks and tabs
abbrev pub IsUnit : List ℕ → Type 0
IsUnit unit = (unit ≢ []) × AllByRecursion (λ b. is_blank b ≡ true) unit

-- a text that can stand after an indent: it has no line feed, and begins with no blank or tab
abbrev pub IsLineText : List ℕ → Type 0
IsLineText t = HasNoLineFeed t × (begins_blank t ≡ false)

-- the unit, n times
abbrev pub indent : List ℕ → ℕ → List ℕ
indent unit zero = []
indent unit (suc n) = unit ++ indent unit n

-- the unit once for each level, then the bullet and the text, and a line feed
abbrev pub indented_line : Form → Line → List ℕ
indented_line form l =
    indent form.unit.now l.level ++ ((form.bullet.now ++ l.text) ++ line_feed ∷ [])

-- lines one after the other
abbrev pub indented_lines : Form → List Line → List ℕ
indented_lines form [] = []
indented_lines form (l ∷ o) = indented_line form l ++ indented_lines form o

-- each text with the bullet before it can stand after an indent
abbrev pub AreLineTexts : Form → List Line → Type 0
AreLineTexts form o = AllByRecursion (λ l. IsLineText (form.bullet.now ++ l.text)) o

-- the lines of a tree, if each of its texts with the bullet before it can stand after an indent
abbrev pub IsIndentedForm : Form → List ℕ → Tree → Type 0
IsIndentedForm form text t =
    AreLineTexts form (outline t) × (text ≡ indented_lines form (outline t))

-- the text is a prefix of the indented form of some tree
abbrev pub HasContinuation : Form → List ℕ → Type 0
HasContinuation form text = (t : Tree) × (rest : List ℕ) × IsIndentedForm form (text ++ rest) t

-- line n of the text, counted from 1, is the first that cannot continue an indented form
pub record IsFirstWrongLine (form : Form) (text : List ℕ) (n : ℕ) : Type 0 where
  pub low : 1 ≤ n
  pub high : n ≤ line_count text
  pub before : HasContinuation form (first_lines (n - 1) text)
  pub wrong : HasContinuation form (first_lines n text) → ⊥

-- the whole lines of the text are a prefix of an indented form, and the text is none
pub record EndsWrong (form : Form) (text : List ℕ) : Type 0 where
  pub lines : HasContinuation form (first_lines (line_count text) text)
  pub wrong : (t : Tree) → IsIndentedForm form text t → ⊥

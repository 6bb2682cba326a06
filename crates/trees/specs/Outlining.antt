-- What is drawn of indented text.
use Rattle.std.specs.Borrow.{Bor}
use Rattle.std.specs.Prelude.{◌≡◌, ◌≢◌, ◌≤◌, ℕ, ◌==◌, not, Bool, if◌then◌else◌, List, [], ◌∷◌, ◌++◌, filter, map, codes, Option, Some, None, option_map, unwrap_or, string_bytes, false}
use Rattle.std.specs.List.{AllByRecursion, find, flat_map, list_all, take_while}
use Rattle.std.specs.Str.Lines.{lines}
use Rattle.ptree.specs.Outline.{outline}
use Rattle.ptree.specs.Texts.{line_feed, HasNoLineFeed}
use Rattle.ptree.specs.Tree.{Tree, height}
use Rattle.ptree_trees.specs.Indented.{is_blank, begins_blank, IsUnit, IsLineText, IsIndentedForm}
use Rattle.ptree_trees.specs.Parts.{begins_with}
use Rattle.ptree_trees.specs.declared.indented.Form.{Form}
use Rattle.trees.specs.declared.command.Indented.{Indented}
use Rattle.trees.specs.declared.command.Outline.{Outline}
use Rattle.trees.specs.declared.failure.Failure.{Failure}
use Rattle.trees.specs.declared.failure.Failure.TheVariants.{Memory}
use Rattle.trees.specs.declared.source.Source.{Source}
use Rattle.trees.specs.Listing.{byte_order_mark, unmarked}
use Rattle.trees.specs.Reading.{FailsToMake}

-- ## Lines

-- whether a line has something else than blanks and tabs
abbrev pub is_filled : List ℕ → Bool
is_filled line = not (list_all is_blank line)

-- the lines of a text that are filled, each without its line feed and a carriage return before that
abbrev pub filled_lines : List ℕ → List (List ℕ)
filled_lines text = filter is_filled (lines text)

-- the lines of an input that count
abbrev pub outline_lines : Source → List (List ℕ)
outline_lines source = filled_lines (unmarked (string_bytes source.text))

-- lines, each with a line feed behind it
abbrev pub text_of_lines : List (List ℕ) → List ℕ
text_of_lines ls = flat_map (λ l. l ++ line_feed ∷ []) ls

-- ## Units and bullets

-- a tab
abbrev pub tab : List ℕ
tab = 9 ∷ []

-- with what a line is indented: a tab, or all blanks before its text
abbrev pub line_indent : List ℕ → List ℕ
line_indent line = if begins_with tab line then tab else take_while (λ b. b == 32) line

-- the indent of the first of these lines, or else a tab
abbrev pub head_indent : List (List ℕ) → List ℕ
head_indent [] = tab
head_indent (line ∷ ls) = line_indent line

-- the indent of the first line that begins with a blank or a tab
abbrev pub first_indent : List (List ℕ) → List ℕ
first_indent ls = head_indent (filter begins_blank ls)

-- the bullet with which a line begins, or nothing
abbrev pub line_bullet : List ℕ → List ℕ
line_bullet line = unwrap_or (find (λ bullet. begins_with bullet line) (codes "- " ∷ codes "* " ∷ codes "+ " ∷ [])) []

-- that of the first line
abbrev pub first_bullet : List (List ℕ) → List ℕ
first_bullet [] = []
first_bullet (line ∷ ls) = line_bullet line

-- the text of an option, or else another
abbrev pub text_or : Option (Bor (List ℕ)) → List ℕ → List ℕ
text_or None other = other
text_or (Some text) other = text.now

-- the unit and the bullet are those of the options, or else of the lines
pub record IsFormOf (outline : Outline) (ls : List (List ℕ)) (form : Form) : Type 0 where
  pub unit : form.unit.now ≡ text_or outline.unit (first_indent ls)
  pub bullet : form.bullet.now ≡ text_or outline.bullet (first_bullet ls)

-- what is written with them can be read back
abbrev pub IsRightForm : Form → Type 0
IsRightForm form = IsUnit form.unit.now × IsLineText form.bullet.now

-- ## Trees

-- the lines, or a line of the label with them below it
abbrev pub labelled_lines : Form → Option (Bor (List ℕ)) → List (List ℕ) → List (List ℕ)
labelled_lines form None ls = ls
labelled_lines form (Some label) ls = (form.bullet.now ++ label.now) ∷ map (λ l. form.unit.now ++ l) ls

-- the text is the indented form of t, which has at most 5,000 levels below its root
pub record IsFormWithin (form : Form) (text : List ℕ) (t : Tree) : Type 0 where
  pub read : IsIndentedForm form text t
  pub within : height t.children ≤ 5000

-- the lines of the source that count are the indented form of t, below the label's if there is one
pub record HoldsOutline (source : Source) (outline : Outline) (t : Tree) : Type 0 where
  pub form : Form
  pub options : IsFormOf outline (outline_lines source) form
  pub text : IsFormWithin form (text_of_lines (labelled_lines form outline.label (outline_lines source))) t

-- they are that of no other tree
abbrev pub HoldsNoOtherOutline : Source → Outline → Tree → Type 0
HoldsNoOtherOutline source outline t = (u : Tree) → HoldsOutline source outline u → t ≡ u

-- what each failure says: there is no such tree, or the unit or the bullet is none, or memory ran out
abbrev pub FailsToOutline : Source → Outline → Failure → Type 0
FailsToOutline source outline =
    FailsToMake ((form : Form) → IsFormOf outline (outline_lines source) form → IsRightForm form → ⊥) (HoldsOutline source outline)

-- ## Outlines of indented text

-- a text ends in a carriage return
abbrev pub EndsInReturn : List ℕ → Type 0
EndsInReturn text = (front : List ℕ) × (text ≡ front ++ 13 ∷ [])

-- a text that is read again behind a bullet: it has no line feed, and ends in no carriage return;
-- without a bullet it is not empty, and begins with no blank or tab
pub record IsKeptText (bullet text : List ℕ) : Type 0 where
  pub line : HasNoLineFeed text
  pub end : EndsInReturn text → ⊥
  pub start : bullet ≡ [] → (text ≢ []) × (begins_blank text ≡ false)

-- a text of a root that is read again: where no bullet is asked for it begins with none, and the
-- first line begins with no byte order mark
pub record IsKeptRoot (bullet : Option (Bor (List ℕ))) (text : List ℕ) : Type 0 where
  pub bare : bullet ≡ None → line_bullet text ≡ []
  pub unmarked : begins_with byte_order_mark (text_or bullet [] ++ text) ≡ false

-- all texts of a tree are read again
pub record AreKeptTexts (bullet : Option (Bor (List ℕ))) (t : Tree) : Type 0 where
  pub root : IsKeptRoot bullet t.text
  pub texts : AllByRecursion (λ l. IsKeptText (text_or bullet []) l.text) (outline t)

-- a bullet that a call can have: a text that can stand after an indent, and ends in no carriage return
abbrev pub IsRightBullet : List ℕ → Type 0
IsRightBullet bullet = IsLineText bullet × (EndsInReturn bullet → ⊥)

-- the unit and the bullet are such as a call can have
pub record HasRightOptions (indented : Indented) : Type 0 where
  pub unit : IsUnit indented.unit.now
  pub bullet : IsRightBullet (text_or indented.bullet [])

-- what is written can be read again: the options are right, and nothing is escaped for a terminal
abbrev pub CanReadBack : Indented → Type 0
CanReadBack indented = HasRightOptions indented × (indented.is_terminal ≡ false)

-- not all texts of t are read again, though the options are right; where it is written doesn't count
abbrev pub LosesText : Indented → Tree → Type 0
LosesText indented t = HasRightOptions indented → AreKeptTexts indented.bullet t → ⊥

-- the options of `outline` are those of `indented`, and no label is given
pub record HasSameOptions (indented : Indented) (outline : Outline) : Type 0 where
  pub unit : option_map (λ unit. unit.now) outline.unit ≡ Some indented.unit.now
  pub bullet : option_map (λ bullet. bullet.now) outline.bullet ≡ option_map (λ bullet. bullet.now) indented.bullet
  pub label : outline.label ≡ None

-- `outline` makes t of the source and nothing else, unless memory runs out
pub record MakesOnly (source : Source) (outline : Outline) (t : Tree) : Type 0 where
  pub some : HoldsOutline source outline t
  pub only : HoldsNoOtherOutline source outline t
  pub failed : (e : Failure) → FailsToOutline source outline e → e ≡ Memory

-- if that can be, it makes t of each source with these bytes, with the same options
abbrev pub IsReadBack : Indented → Tree → List ℕ → Type 0
IsReadBack indented t bytes =
    CanReadBack indented → (source : Source) (outline : Outline) → string_bytes source.text ≡ bytes → HasSameOptions indented outline → MakesOnly source outline t

-- What the parts of the reader of indented text do. No public contract cites this.
use Rattle.std.specs.Prelude.{◌≡◌, ◌<◌, ◌≤◌, ◌+◌, ℕ, false, ⊤, List, [], ◌∷◌, ◌++◌, Result, Ok, Err}
use Rattle.ptree.specs.Outline.{line}
use Rattle.ptree.specs.Tree.{tree_of}
use Rattle.ptree.specs.TreeBuilder.{Building}
use Rattle.ptree.specs.declared.item.StringItem.{StringItem}
use Rattle.ptree_trees.specs.declared.indented.Form.{Form}
use Rattle.ptree_trees.specs.declared.indented.IndentError.{IndentError}
use Rattle.ptree_trees.specs.declared.indented.IndentError.TheVariants.{Line, End, Memory}
use Rattle.ptree_trees.specs.Indented.{begins_blank, indent}
use Rattle.ptree_trees.specs.Indented.{IsIndentedForm, IsFirstWrongLine, EndsWrong}

-- a line with this level and text can follow an item at level n
pub record IsNext (form : Form) (n : ℕ) (x : List ℕ) (level : ℕ) (text : List ℕ) : Type 0 where
  pub text_is : begins_blank (form.bullet.now ++ text) ≡ false
  pub line_is : x ≡ indent form.unit.now level ++ (form.bullet.now ++ text)
  pub low : 0 < level
  pub high : level ≤ n + 1

-- the item of a line was added
pub record IsAdded (form : Form) (old new : Building) (x : List ℕ) : Type 0 where
  pub level : ℕ
  pub text : List ℕ
  pub next : IsNext form old.level x level text
  pub outline : new.outline ≡ old.outline ++ line level text ∷ []
  pub level_is : new.level ≡ level

-- what the text is, as a result says
abbrev pub IsReading : Form → List ℕ → Result StringItem IndentError → Type 0
IsReading form text (Ok t) = IsIndentedForm form text (tree_of t)
IsReading form text (Err (Line n)) = IsFirstWrongLine form text n
IsReading form text (Err End) = EndsWrong form text
IsReading form text (Err Memory) = ⊤

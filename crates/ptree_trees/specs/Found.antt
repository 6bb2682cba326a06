-- What the search for a difference has found.
use Rattle.std.specs.Prelude.{◌≡◌, ◌≤◌, nat_lt, ⊤, ℕ, suc, if◌then◌else◌, List, [], ◌∷◌, ◌++◌, map, reverse, Option, Some, None, option_map, Result, Ok, Err}
use Rattle.ptree.specs.declared.read.ReadError.{ReadError}
use Rattle.ptree.specs.declared.read.items.ItemReader.{ItemReader}
use Rattle.ptree.specs.Address.{Address, at}
use Rattle.ptree.specs.Drawing.{Look}
use Rattle.ptree.specs.DrawnForm.{IsDrawnForm}
use Rattle.ptree.specs.ItemReader.{HasRead}
use Rattle.ptree.specs.Outline.{Line, line, outline, outline_at}
use Rattle.ptree.specs.ReadItems.{read_text_of}
use Rattle.ptree.specs.Scanned.{IsError}
use Rattle.ptree.specs.Tree.{Tree, tree_kids, tree_of}
use Rattle.ptree_trees.specs.declared.difference.Difference.{Difference}
use Rattle.ptree_trees.specs.declared.difference.Found.{Found}
use Rattle.ptree_trees.specs.declared.difference.Found.TheVariants.{Nothing, Difference as Differ, Wrong}
use Rattle.ptree_trees.specs.Difference.{DifferAt, AreSameBefore, IsTextDifference}

-- at this address the trees differ for the first time, and these stand there
pub record IsFirst (t u : Tree) (a : Address) (x y : Option Tree) : Type 0 where
  pub differ : DifferAt t u a
  pub least : AreSameBefore t u a
  pub left : x ≡ at tree_kids t a
  pub right : y ≡ at tree_kids u a

-- the first difference, with its address in reverse order, or the trees are equal
abbrev pub IsFound : Tree → Tree → Option Difference → Type 0
IsFound t u None = t ≡ u
IsFound t u (Some d) =
    let left = option_map (λ s. tree_of s.now) d.left in
    let right = option_map (λ s. tree_of s.now) d.right in
    IsFirst t u (reverse d.address.items) left right

-- the text of the first of these lines, if it is below a level
abbrev pub first_below : ℕ → List Line → Option (List ℕ)
first_below n [] = None
first_below n (l ∷ rest) = if nat_lt n l.level then Some l.text else None

-- the first of these lines is not below a level
abbrev pub AreBehind : ℕ → List Line → Type 0
AreBehind n [] = ⊤
AreBehind n (l ∷ rest) = l.level ≤ n

-- ## Readers

-- a reader of this text has returned some items
abbrev pub IsReading : Look → ℕ → List ℕ → ItemReader → Type 0
IsReading look depth x reader = (done : List Line) × HasRead look depth x reader done

-- it still does behind a call, or this is the text's error
abbrev pub IsReadOn : {T : Type 0} → Look → ℕ → List ℕ → ItemReader → Result T ReadError → Type 0
IsReadOn look depth x reader (Ok made) = IsReading look depth x reader
IsReadOn look depth x reader (Err e) = IsError look depth x e

-- the same of the right text, whose error is what was found
abbrev pub IsOtherReadOn : Look → ℕ → List ℕ → ItemReader → Found → Type 0
IsOtherReadOn look depth x reader Nothing = IsReading look depth x reader
IsOtherReadOn look depth x reader (Differ d) = IsReading look depth x reader
IsOtherReadOn look depth x reader (Wrong e) = IsError look depth x e

-- a reader of the drawing of some tree has these lines left
pub record HasLeft (look : Look) (depth : ℕ) (x : List ℕ) (reader : ItemReader) (lines : List Line) : Type 0 where
  pub whole : Tree
  pub form : IsDrawnForm look depth x whole
  pub done : List Line
  pub read : HasRead look depth x reader done
  pub all : outline whole ≡ done ++ lines

-- these lines are those of a tree whose root has level n, with the rest behind them
pub record AreTreeAt (n : ℕ) (t : Tree) (rest lines : List Line) : Type 0 where
  pub lines_are : lines ≡ (line n t.text ∷ outline_at (suc n) t.children) ++ rest
  pub behind : AreBehind n rest

-- ## What was found

-- the first difference of two trees, with its address and the texts above it in reverse order; or they are equal, and
-- these lines are left; or the right text is wrong
abbrev pub FindsIn : Look → ℕ → List ℕ → List ℕ → ItemReader → ItemReader → List Line → List Line → Tree → Tree → Found → Type 0
FindsIn look depth x y left right l r t u Nothing = (t ≡ u) × HasLeft look depth x left l × HasLeft look depth y right r
FindsIn look depth x y left right l r t u (Differ d) =
    IsTextDifference t u (reverse d.address.items) (map read_text_of (reverse d.above.items)) (option_map read_text_of d.left) (option_map read_text_of d.right)
FindsIn look depth x y left right l r t u (Wrong e) = ⊤

-- the same of the trees that are next
abbrev pub FindsFrom : Look → ℕ → List ℕ → List ℕ → ItemReader → ItemReader → ItemReader → ItemReader → Found → Type 0
FindsFrom look depth x y left right new_left new_right found =
    (n : ℕ) (t u : Tree) (l r lines others : List Line) → HasLeft look depth x left lines → HasLeft look depth y right others → AreTreeAt n t l lines → AreTreeAt n u r others → FindsIn look depth x y new_left new_right l r t u found

-- Which lines are the first lines of a drawing.
use Rattle.std.specs.Prelude.{◌≡◌, ◌↔◌, ◌<◌, ◌≤◌, ◌-◌, ◌+◌, ℕ, zero, suc, nat_eq, Bool, true, false, if◌then◌else◌, List, [], ◌∷◌, ◌++◌, length, slice_index_or}
use Rattle.ptree.specs.Drawing.{Look}
use Rattle.ptree.specs.DrawnForm.{IsDrawnForm}
use Rattle.ptree.specs.Texts.{line_feed}
use Rattle.ptree.specs.Tree.{Tree}

-- prefix is a prefix of some drawing within the depth
abbrev pub HasContinuation : Look → ℕ → List ℕ → Type 0
HasContinuation look depth prefix = (t : Tree) × (rest : List ℕ) × IsDrawnForm look depth (prefix ++ rest) t

-- the first n lines of x, with their line feeds
abbrev pub first_lines : ℕ → List ℕ → List ℕ
first_lines zero x = []
first_lines (suc n) [] = []
first_lines (suc n) (b ∷ x) = b ∷ first_lines (if nat_eq b line_feed then n else suc n) x

-- the number of lines of x that end in a line feed
abbrev pub line_count : List ℕ → ℕ
line_count [] = 0
line_count (b ∷ x) = if nat_eq b line_feed then 1 + line_count x else line_count x

-- line n of x, counted from 1, is the first that cannot continue a drawing
pub record IsFirstWrongLine (look : Look) (depth : ℕ) (x : List ℕ) (n : ℕ) : Type 0 where
  pub low : 1 ≤ n
  pub high : n ≤ line_count x
  pub before : HasContinuation look depth (first_lines (n - 1) x)
  pub wrong : HasContinuation look depth (first_lines n x) → ⊥

-- the whole lines of x are a prefix of a drawing, and x is not a drawing
pub record EndsWrong (look : Look) (depth : ℕ) (x : List ℕ) : Type 0 where
  pub lines : HasContinuation look depth (first_lines (line_count x) x)
  pub wrong : (t : Tree) → IsDrawnForm look depth x t → ⊥

-- some drawing within the depth begins with this text, this line and a line feed
abbrev pub IsFollowedBy : Look → ℕ → List ℕ → List ℕ → Type 0
IsFollowedBy look depth text line = HasContinuation look depth (text ++ (line ++ line_feed ∷ []))

-- a flag for each text, which says whether Is holds of it
pub record AreFlags (Is : List ℕ → Type 0) (texts : List (List ℕ)) (flags : List Bool) : Type 0 where
  pub count : length flags ≡ length texts
  pub each : (i : ℕ) → i < length texts → (slice_index_or flags i false ≡ true) ↔ Is (slice_index_or texts i [])

-- What the parts of reading paths and indented text do. What `perform` ensures doesn't cite this.
use Rattle.std.specs.Borrow.{Bor}
use Rattle.std.specs.Prelude.{◌≡◌, ◌<◌, ◌⊎◌, ℕ, ◌==◌, ◌||◌, Bool, true, false, List, [], ◌∷◌, ◌++◌, Option, Some, None}
use Rattle.std.specs.List.{list_any}
use Rattle.ptree_trees.specs.Indented.{indent}
use Rattle.ptree_trees.specs.Paths.{names}
use Rattle.trees.specs.Listing.{is_absolute, is_relative, is_cut_off, is_wrong_path}

-- the names of a path, where the empty path has none
abbrev pub own_names : List ℕ → List (List ℕ)
own_names [] = []
own_names (b ∷ path) = names 47 (b ∷ path)

-- a path is a slash, or `./`, and then the rest
abbrev pub IsBehindStart : List ℕ → List ℕ → Type 0
IsBehindStart path rest = (path ≡ 47 ∷ rest) ⊎ (path ≡ 46 ∷ 47 ∷ rest)

-- whether the first path that is not empty begins with a slash
abbrev pub is_first_absolute : List (List ℕ) → Bool
is_first_absolute [] = false
is_first_absolute ([] ∷ lines) = is_first_absolute lines
is_first_absolute ((b ∷ path) ∷ lines) = b == 47

-- whether all paths have to begin with a slash, or none may: with a label that doesn't count
abbrev pub beside : Option (Bor (List ℕ)) → Bool → Option Bool
beside (Some label) are_absolute = None
beside None are_absolute = Some are_absolute

-- whether a path begins unlike the others
abbrev pub is_unlike : Option Bool → List ℕ → Bool
is_unlike None path = false
is_unlike (Some true) path = is_relative path
is_unlike (Some false) path = is_absolute path

-- whether a path is wrong, by itself or beside the others
abbrev pub is_wrong_line : Bool → Option Bool → List ℕ → Bool
is_wrong_line ends_in_zero others path = is_wrong_path ends_in_zero path || is_unlike others path

-- whether the last path is cut off, or one is wrong
abbrev pub are_wrong_lines : Bool → Option Bool → List (List ℕ) → Bool
are_wrong_lines ends_in_zero others lines = is_cut_off ends_in_zero lines || list_any (is_wrong_line ends_in_zero others) lines

-- a line begins with more units than there are levels
abbrev pub IsDeep : ℕ → List ℕ → List ℕ → Type 0
IsDeep levels unit line = (n : ℕ) × (rest : List ℕ) × (levels < n) × (line ≡ indent unit n ++ rest)

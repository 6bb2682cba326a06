-- What is drawn of paths.
use Rattle.std.specs.Borrow.{Bor}
use Rattle.std.specs.Prelude.{◌≡◌, ◌⊎◌, ℕ, ◌-◌, ◌==◌, ◌&&◌, ◌||◌, not, nat_lt, Bool, true, false, if◌then◌else◌, List, [], ◌∷◌, drop, filter, get_or, length, map, codes, Option, Some, None, is_none, string_bytes}
use Rattle.std.specs.List.{list_all, list_any, slice_split}
use Rattle.std.specs.Str.Lines.{lines}
use Rattle.ptree.specs.Tree.{Forest, Tree}
use Rattle.ptree_trees.specs.Parts.{begins_with}
use Rattle.ptree_trees.specs.Paths.{names, next_names, has_name, texts_below, IsForestOfPaths, IsSortedForestOfPaths}
use Rattle.trees.specs.declared.command.Paths.{Paths}
use Rattle.trees.specs.declared.failure.Failure.{Failure}
use Rattle.trees.specs.declared.source.Source.{Source}
use Rattle.trees.specs.Changing.{IsKept}
use Rattle.trees.specs.Reading.{FailsFor}

-- ## Lines

-- a byte order mark
abbrev pub byte_order_mark : List ℕ
byte_order_mark = 239 ∷ 187 ∷ 191 ∷ []

-- a text without a byte order mark before it
abbrev pub unmarked : List ℕ → List ℕ
unmarked text = if begins_with byte_order_mark text then drop 3 text else text

-- the paths in a text: its parts between zero bytes, or its lines, without the carriage return before
-- a line feed
abbrev pub path_lines : Bool → List ℕ → List (List ℕ)
path_lines true text = slice_split (λ b. b == 0) text
path_lines false text = lines text

-- the paths in an input
abbrev pub source_lines : Source → Paths → List (List ℕ)
source_lines source paths = path_lines paths.ends_in_zero (unmarked (string_bytes source.text))

-- ## Names

-- whether a name doesn't count before a path: the empty one, and `.`
abbrev pub is_start : List ℕ → Bool
is_start [] = true
is_start (b ∷ []) = b == 46
is_start (b ∷ c ∷ name) = false

-- whether a name is empty
abbrev pub is_empty : List ℕ → Bool
is_empty [] = true
is_empty (b ∷ name) = false

-- the names from the first one on that counts
abbrev pub from_first : List (List ℕ) → List (List ℕ)
from_first [] = []
from_first (n ∷ ns) = if is_start n then from_first ns else n ∷ ns

-- the names up to the last one that is not empty
abbrev pub to_last : List (List ℕ) → List (List ℕ)
to_last [] = []
to_last (n ∷ ns) = if is_empty n && list_all is_empty ns then [] else n ∷ to_last ns

-- the names of a path: what stands between its slashes, without each empty one and each `.` before
-- the first other one, and without each empty one behind the last
abbrev pub path_names : List ℕ → List (List ℕ)
path_names path = to_last (from_first (names 47 path))

-- whether there are names
abbrev pub has_names : List (List ℕ) → Bool
has_names [] = false
has_names (n ∷ ns) = true

-- the names of each path that has some
abbrev pub given_paths : List (List ℕ) → List (List (List ℕ))
given_paths lines = filter has_names (map path_names lines)

-- ## Wrong paths

-- whether a path begins with a slash
abbrev pub is_absolute : List ℕ → Bool
is_absolute [] = false
is_absolute (b ∷ path) = b == 47

-- whether it begins with something else
abbrev pub is_relative : List ℕ → Bool
is_relative [] = false
is_relative (b ∷ path) = not (b == 47)

-- whether a path begins with a quotation mark, as one does that git quotes
abbrev pub is_quoted : List ℕ → Bool
is_quoted [] = false
is_quoted (b ∷ path) = b == 34

-- whether a path is wrong by itself: it has a zero byte, or more names than there are levels, or is
-- quoted where paths are lines
abbrev pub is_wrong_path : Bool → List ℕ → Bool
is_wrong_path ends_in_zero path = list_any (λ b. b == 0) path || (nat_lt 5000 (length (path_names path)) || (not ends_in_zero && is_quoted path))

-- whether paths end in a zero byte, but the last one does not: behind the last zero byte is a text
abbrev pub is_cut_off : Bool → List (List ℕ) → Bool
is_cut_off ends_in_zero lines = ends_in_zero && not (is_empty (get_or lines (length lines - 1) []))

-- whether paths are wrong: the last one is cut off, or one is wrong by itself, or without a label only some
-- begin with a slash
abbrev pub are_wrong : Bool → Option (Bor (List ℕ)) → List (List ℕ) → Bool
are_wrong ends_in_zero label lines = is_cut_off ends_in_zero lines || (list_any (is_wrong_path ends_in_zero) lines || (is_none label && (list_any is_absolute lines && list_any is_relative lines)))

-- ## Trees

-- the root's text: the label, or else `/` if the paths begin with it, and else `.`
abbrev pub root_text : Option (Bor (List ℕ)) → Bool → List ℕ
root_text (Some label) are_absolute = label.now
root_text None true = codes "/"
root_text None false = codes "."

-- the forest has each name of the paths once in its folder: in ascending order, or in that in which
-- they come first
abbrev pub IsFolders : Bool → Forest → List (List (List ℕ)) → Type 0
IsFolders true f paths = IsSortedForestOfPaths f paths
IsFolders false f paths = IsForestOfPaths f paths

-- a name stands below others in the forest exactly if it follows them in one of the paths
abbrev pub HasPaths : Forest → List (List (List ℕ)) → Type 0
HasPaths f paths = (ns : List (List ℕ)) (n : List ℕ) → has_name (texts_below f ns) n ≡ has_name (next_names ns paths) n

-- the paths in an input are right, and t is their tree
pub record IsListing (source : Source) (paths : Paths) (t : Tree) : Type 0 where
  pub right : are_wrong paths.ends_in_zero paths.label (source_lines source paths) ≡ false
  pub root : t.text ≡ root_text paths.label (list_any is_absolute (source_lines source paths))
  pub folders : IsFolders paths.is_sorted t.children (given_paths (source_lines source paths))

-- u is what `paths` keeps of the tree of an input
pub record IsListed (source : Source) (paths : Paths) (u : Tree) : Type 0 where
  pub whole : Tree
  pub listing : IsListing source paths whole
  pub kept : IsKept paths.keep whole u

-- the paths in an input are wrong, or nothing in their tree contains the text that is to be kept
abbrev pub IsWrongList : Source → Paths → Type 0
IsWrongList source paths =
    (are_wrong paths.ends_in_zero paths.label (source_lines source paths) ≡ true)
    ⊎ ((whole : Tree) × IsListing source paths whole × ((u : Tree) → IsKept paths.keep whole u → ⊥))

-- what each failure before anything is drawn says: the input is wrong, or memory ran out
abbrev pub FailsToList : Source → Paths → Failure → Type 0
FailsToList source paths = FailsFor (IsWrongList source paths) ⊥

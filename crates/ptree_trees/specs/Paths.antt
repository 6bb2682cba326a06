-- Trees of paths.
use Rattle.std.specs.Borrow.{Bor}
use Rattle.std.specs.Cmp.Lexicographic.{slice_cmp}
use Rattle.std.specs.List.Sorted.{IsStrictlySortedBy}
use Rattle.std.specs.Ordering.{nat_cmp}
use Rattle.std.specs.Prelude.{◌≡◌, ℕ, ◌==◌, if◌then◌else◌, Bool, false, ◌||◌, Option, Some, None, List, [], ◌∷◌, ◌++◌, map}
use Rattle.std.specs.Option.{option_to_list}
use Rattle.std.specs.Str.{bytes_eq}
use Rattle.ptree.specs.Tree.{Forest, none, item}

-- the first of the names with this byte before it
abbrev pub with_first : ℕ → List (List ℕ) → List (List ℕ)
with_first b [] = (b ∷ []) ∷ []
with_first b (n ∷ ns) = (b ∷ n) ∷ ns

-- the names of a path: its parts between separators
abbrev pub names : ℕ → List ℕ → List (List ℕ)
names separator [] = [] ∷ []
names separator (b ∷ path) = if b == separator then [] ∷ names separator path else with_first b (names separator path)

-- the name that follows these in a path, if the path begins with them and goes on
abbrev pub next_name : List (List ℕ) → List (List ℕ) → Option (List ℕ)
next_name ns [] = None
next_name [] (m ∷ path) = Some m
next_name (n ∷ ns) (m ∷ path) = if bytes_eq m n then next_name ns path else None

-- the names that follow these in paths, in order
abbrev pub next_names : List (List ℕ) → List (List (List ℕ)) → List (List ℕ)
next_names ns [] = []
next_names ns (path ∷ paths) = option_to_list (next_name ns path) ++ next_names ns paths

-- the name is among these
abbrev pub has_name : List (List ℕ) → List ℕ → Bool
has_name [] n = false
has_name (m ∷ ms) n = bytes_eq m n || has_name ms n

-- the names, and this one if it is not among them
abbrev pub with_name : List (List ℕ) → List ℕ → List (List ℕ)
with_name ms n = if has_name ms n then ms else ms ++ n ∷ []

-- these names, and then each other name once, in the order in which they come first
abbrev pub with_names : List (List ℕ) → List (List ℕ) → List (List ℕ)
with_names ms [] = ms
with_names ms (n ∷ ns) = with_names (with_name ms n) ns

-- the texts of the trees of a forest
abbrev pub tops : Forest → List (List ℕ)
tops none = []
tops (item t c r) = t ∷ tops r

-- what is below the first tree with this text
abbrev pub below : Forest → List ℕ → Forest
below none n = none
below (item t c r) n = if bytes_eq t n then c else below r n

-- the texts of the items below these names, one below the other
abbrev pub texts_below : Forest → List (List ℕ) → List (List ℕ)
texts_below f [] = tops f
texts_below f (n ∷ ns) = texts_below (below f n) ns

-- below each list of names are the names that follow it in the paths, each once, in the order in
-- which they come first
abbrev pub IsForestOfPaths : Forest → List (List (List ℕ)) → Type 0
IsForestOfPaths f paths = (ns : List (List ℕ)) → texts_below f ns ≡ with_names [] (next_names ns paths)

-- below each list of names are the names that follow it in the paths, each once, in ascending order
abbrev pub IsSortedForestOfPaths : Forest → List (List (List ℕ)) → Type 0
IsSortedForestOfPaths f paths =
    (ns : List (List ℕ)) → IsStrictlySortedBy (slice_cmp nat_cmp) (texts_below f ns) × ((n : List ℕ) → has_name (texts_below f ns) n ≡ has_name (next_names ns paths) n)

-- the names of paths
abbrev pub names_of : ℕ → List (Bor (List ℕ)) → List (List (List ℕ))
names_of separator paths = map (λ p. names separator p.now) paths

-- what follows a name in the paths that begin with it and go on
abbrev pub tails_of : List ℕ → List (List (List ℕ)) → List (List (List ℕ))
tails_of n [] = []
tails_of n ([] ∷ paths) = tails_of n paths
tails_of n ((m ∷ []) ∷ paths) = tails_of n paths
tails_of n ((m ∷ k ∷ path) ∷ paths) = if bytes_eq m n then (k ∷ path) ∷ tails_of n paths else tails_of n paths

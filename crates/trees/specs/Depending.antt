-- Which graph is drawn of packages and what they need, and of lines of two words.
use Rattle.std.specs.Borrow.{Bor}
use Rattle.std.specs.Prelude.{◌≡◌, ◌≢◌, ◌<◌, ◌↔◌, ℕ, ◌==◌, ◌&&◌, ◌||◌, not, Bool, true, false, if◌then◌else◌, List, [], ◌∷◌, ◌++◌, filter, flat_map, length, map, reverse, All, AllPairs, Contains, Option, Some, None, codes, string_bytes}
use Rattle.std.specs.Char.{is_whitespace}
use Rattle.std.specs.Cmp.Lexicographic.{slice_cmp}
use Rattle.std.specs.List.{list_any, position_or_len, slice_split}
use Rattle.std.specs.List.Sorted.{IsStrictlySortedBy}
use Rattle.std.specs.Ordering.{nat_cmp}
use Rattle.std.specs.Str.{bytes_eq, chars, encode_utf8_all, trim_start}
use Rattle.std.specs.Str.Lines.{lines}
use Rattle.ptree.specs.Graph.{edges_of, turned, weights_of}
use Rattle.ptree_trees.specs.Parts.{begins_with, has_part}
use Rattle.trees.specs.declared.deps.Dependencies.{Dependencies}
use Rattle.trees.specs.declared.deps.Need.{Need}
use Rattle.trees.specs.declared.source.Source.{Source}
use Rattle.trees.specs.Documents.{IsLastPart}
use Rattle.trees.specs.Listing.{is_empty, unmarked}
use Rattle.trees.specs.Naming.{IsRootNode, LacksRoot}
use Rattle.trees.specs.Shown.{shown_text}

-- ## Texts of lines

-- the text of a source, without a byte order mark before it
abbrev pub source_text : Source → List ℕ
source_text source = unmarked (string_bytes source.text)

-- the names of files that are other lists of dependencies, or none
abbrev pub other_names : List (List ℕ)
other_names = codes "pnpm-lock.yaml" ∷ codes "yarn.lock" ∷ codes "pdm.lock" ∷ codes "composer.lock" ∷ codes "Cargo.toml" ∷ codes "package.json" ∷ codes "pyproject.toml" ∷ codes "go.mod" ∷ []

-- the beginnings of lines that only lock files of pnpm, yarn, PDM and Composer, and `go.mod` have
abbrev pub other_starts : List (List ℕ)
other_starts = codes "lockfileVersion:" ∷ codes "# yarn lockfile " ∷ codes "__metadata:" ∷ codes "go 1." ∷ codes "lock_version = " ∷ codes "    \"_readme\": [" ∷ []

-- whether a line begins so
abbrev pub is_other_line : List ℕ → Bool
is_other_line line = list_any (λ start. begins_with start line) other_starts

-- a source is no list of another program, by its name and its lines
pub record IsOwn (source : Source) : Type 0 where
  pub name : (label : List ℕ) → IsLastPart (string_bytes source.name) label → list_any (bytes_eq label) other_names ≡ false
  pub lines : list_any is_other_line (lines (source_text source)) ≡ false

-- whether its text begins so, behind white space
abbrev pub begins_as : List ℕ → Source → Bool
begins_as start source = begins_with start (trim_start (source_text source))

-- whether it has tables of packages, or says that there are none, as a poetry.lock does
abbrev pub has_tables : Source → Bool
has_tables source = has_part (codes "[[package]]") (source_text source) || has_part (codes "package = []") (source_text source)

-- whether it is read as a lock file: it begins as an object of JSON, or has such tables
abbrev pub is_lock : Source → Bool
is_lock source = begins_as (codes "{") source || has_tables source

-- a source is no list of another program, and it is read as a lock file
pub record IsLockFile (source : Source) : Type 0 where
  pub own : IsOwn source
  pub lock : is_lock source ≡ true

-- it is read as lines of two words: nothing says that it is a lock file, or other JSON or TOML
pub record IsPairFile (source : Source) : Type 0 where
  pub own : IsOwn source
  pub lock : is_lock source ≡ false
  pub list : begins_as (codes "[") source ≡ false

-- ## Lines

-- the words of a line: what stands between its white space
abbrev pub words_of : List ℕ → List (List ℕ)
words_of line = map encode_utf8_all (filter (λ part. not (is_empty part)) (slice_split is_whitespace (chars line)))

-- whether a line has words
abbrev pub has_words : List (List ℕ) → Bool
has_words [] = false
has_words (w ∷ ws) = true

-- the two words of a pair, the first of which needs the second
abbrev pub pair_words : List ℕ × List ℕ → List (List ℕ)
pair_words p = p.0 ∷ p.1 ∷ []

-- the lines of a text that have words are these pairs, and none of them is a comment
pub record ArePairs (text : List ℕ) (pairs : List (List ℕ × List ℕ)) : Type 0 where
  pub words : filter has_words (map words_of (lines text)) ≡ map pair_words pairs
  pub own : All (λ p. p.0 ≢ codes "#") pairs

-- the lines of the source are these pairs
abbrev pub HoldsPairs : Source → List (List ℕ × List ℕ) → Type 0
HoldsPairs source pairs = ArePairs (source_text source) pairs

-- the source holds no pairs
abbrev pub HoldsNone : Source → Type 0
HoldsNone source = (pairs : List (List ℕ × List ℕ)) → HoldsPairs source pairs → pairs ≡ []

-- ## Packages

-- the numbers of a package and of the one that it needs
abbrev pub ends : Need → ℕ × ℕ
ends n = (n.needing, n.needed)

-- two numbers are below a count
abbrev pub IsWithin : ℕ → ℕ × ℕ → Type 0
IsWithin count e = (e.0 < count) × (e.1 < count)

-- ## Nodes and edges

-- names are the words of pairs, each once, in ascending order
pub record AreNames (pairs : List (List ℕ × List ℕ)) (names : List (List ℕ)) : Type 0 where
  pub ascending : IsStrictlySortedBy (slice_cmp nat_cmp) names
  pub words : (w : List ℕ) → Contains names w ↔ Contains (flat_map pair_words pairs) w

-- the number of a word among names: how many stand before it
abbrev pub number : List (List ℕ) → List ℕ → ℕ
number names w = position_or_len (bytes_eq w) names

-- whether the words of a pair differ
abbrev pub is_need : List ℕ × List ℕ → Bool
is_need p = not (bytes_eq p.0 p.1)

-- an edge, or the reverse if what needs a node is drawn
abbrev pub directed : Bool → ℕ × ℕ → ℕ × ℕ
directed is_inverse e = if is_inverse then turned e else e

-- the numbers of the words of a pair
abbrev pub need_of : List (List ℕ) → List ℕ × List ℕ → ℕ × ℕ
need_of names p = (number names p.0, number names p.1)

-- those of pairs of different words
abbrev pub needs_between : List (List ℕ) → List (List ℕ × List ℕ) → List (ℕ × ℕ)
needs_between names pairs = map (need_of names) (filter is_need pairs)

-- whether two edges are the same
abbrev pub same_edge : ℕ × ℕ → ℕ × ℕ → Bool
same_edge d e = (d.0 == e.0) && (d.1 == e.1)

-- each element of a list once, where it first stands
abbrev pub firsts : {X : Type 0} → (X → X → Bool) → List X → List X
firsts same [] = []
firsts same (x ∷ xs) = x ∷ filter (λ y. not (same x y)) (firsts same xs)

-- the edges of needs, or the reverse, each once, in the order in which they first stand
abbrev pub edges_of_needs : Bool → List (ℕ × ℕ) → List (ℕ × ℕ)
edges_of_needs is_inverse needs = firsts same_edge (map (directed is_inverse) needs)

-- ## Roots

-- a set of nodes has what the edges from its nodes lead to
abbrev pub IsClosed : List (ℕ × ℕ) → (ℕ → Bool) → Type 0
IsClosed edges has = (e : ℕ × ℕ) → Contains edges e → has e.0 ≡ true → has e.1 ≡ true

-- a set has each of these nodes
abbrev pub HasEach : (ℕ → Bool) → List ℕ → Type 0
HasEach has nodes = All (λ n. has n ≡ true) nodes

-- edges do not lead from one node to another: such a set has the one and not the other
abbrev pub IsUnreached : List (ℕ × ℕ) → ℕ → ℕ → Type 0
IsUnreached edges from to = (has : ℕ → Bool) × IsClosed edges has × (has from ≡ true) × (has to ≡ false)

-- edges lead from some nodes to all, and from none of them to another
pub record AreTops (edges : List (ℕ × ℕ)) (count : ℕ) (tops : List ℕ) : Type 0 where
  pub all : (has : ℕ → Bool) → IsClosed edges has → HasEach has tops → (n : ℕ) → n < count → has n ≡ true
  pub apart : AllPairs (λ t u. IsUnreached edges t u × IsUnreached edges u t) tops

-- ## Graphs

-- the texts and edges of a graph whose root stands for some nodes: it is the only one, or a node above
-- them, with a label
abbrev pub StandsAbove : List ℕ → List (List ℕ) → List (ℕ × ℕ) → List ℕ → List (List ℕ) → List (ℕ × ℕ) → ℕ → Type 0
StandsAbove label names edges (top ∷ []) texts all root = (root ≡ top) × (texts ≡ names) × (all ≡ edges)
StandsAbove label names edges tops texts all root = (root ≡ length names) × (texts ≡ names ++ label ∷ []) × (all ≡ edges ++ map (λ t. (length names, t)) tops)

-- the texts and edges of a graph from a root on: from the node that the name means, if one is asked
-- for, and else from the nodes that lead to all
abbrev pub IsRooted : Source → Option (Bor (List ℕ)) → List (List ℕ) → List (List ℕ) → List (ℕ × ℕ) → List (List ℕ) → List (ℕ × ℕ) → ℕ → Type 0
IsRooted source (Some name) paths names edges texts all root = IsRootNode names paths name.now root × (texts ≡ names) × (all ≡ edges)
IsRooted source None paths names edges texts all root =
    (label : List ℕ) × (tops : List ℕ) × IsLastPart (string_bytes source.name) label × All (λ t. t < length names) tops × AreTops edges (length names) tops × StandsAbove label names edges tops texts all root

-- d is the graph of names and edges from the root that is asked for on, a node's first edge first
pub record IsGraphIn (source : Source) (root : Option (Bor (List ℕ))) (is_terminal : Bool)
    (paths names : List (List ℕ)) (edges : List (ℕ × ℕ)) (d : Dependencies) : Type 0 where
  pub texts : List (List ℕ)
  pub all : List (ℕ × ℕ)
  pub rooted : IsRooted source root paths names edges texts all d.root.0
  pub weights : map string_bytes (weights_of d.graph) ≡ map (shown_text is_terminal) texts
  pub drawn : edges_of d.graph ≡ reverse all

-- a name is asked for that means none of these nodes
abbrev pub IsNoName : Option (Bor (List ℕ)) → List (List ℕ) → List (List ℕ) → Type 0
IsNoName None paths names = ⊥
IsNoName (Some name) paths names = LacksRoot names paths name.now

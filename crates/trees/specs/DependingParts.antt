-- What the parts of reading packages and lines of two words do. What `perform` ensures doesn't cite this.
use Rattle.std.specs.Borrow.{Bor}
use Rattle.std.specs.BTreeSet.{contains}
use Rattle.std.specs.Ordering.{nat_cmp, ordering_then}
use Rattle.std.specs.declared.cmp.Ordering.{Ordering}
use Rattle.std.specs.List.{list_any, range_with_len}
use Rattle.std.specs.Str.{bytes_eq}
use Rattle.std.specs.Prelude.{◌≡◌, ◌≢◌, ◌<◌, ◌+◌, ◌⊎◌, ◌||◌, ℕ, Bool, not, true, false, if◌then◌else◌, List, [], ◌∷◌, ◌++◌, count_by, filter, length, map, slice_index_or, All, AllPairs, Contains, Option, Some, None, codes, string_bytes}
use Rattle.ptree.specs.Graph.{numbers_of}
use Rattle.trees.specs.declared.deps.network.Network.{Network}
use Rattle.trees.specs.declared.deps.Packages.{Packages}
use Rattle.trees.specs.declared.source.Source.{Source}
use Rattle.trees.specs.Depending.{pair_words, ends, needs_between, same_edge, edges_of_needs, HoldsPairs, AreNames, IsClosed, HasEach, IsUnreached, IsWithin, AreTops, StandsAbove, IsRooted}
use Rattle.trees.specs.Meaning.{IsUnderstood, Means}
use Rattle.trees.specs.Naming.{is_labelled, passes_at}

-- ## Lines

-- the texts of a pair
abbrev pub texts_of : Bor (List ℕ) × Bor (List ℕ) → List ℕ × List ℕ
texts_of p = (p.0.now, p.1.now)

-- the words of a pair, or none
abbrev pub found_words : Option (Bor (List ℕ) × Bor (List ℕ)) → List (List ℕ)
found_words None = []
found_words (Some p) = pair_words (texts_of p)

-- whether words are no pair: neither none nor two, or those of a comment
abbrev pub are_no_pair : List (List ℕ) → Bool
are_no_pair [] = false
are_no_pair (v ∷ []) = true
are_no_pair (v ∷ w ∷ []) = bytes_eq v (codes "#")
are_no_pair (v ∷ w ∷ x ∷ ws) = true

-- ## Networks

-- the labels of a network
abbrev pub labels_of : Network → List (List ℕ)
labels_of n = map string_bytes n.labels.items

-- its edges, oldest first, each as the numbers of its nodes
abbrev pub needs_of : Network → List (ℕ × ℕ)
needs_of n = map numbers_of n.edges.items

-- edges by their first and then by their second node
abbrev pub edge_cmp : ℕ × ℕ → ℕ × ℕ → Ordering
edge_cmp d e = ordering_then (nat_cmp d.0 e.0) (nat_cmp d.1 e.1)

-- the edges in ascending order are the edges
abbrev pub IsIndexed : Network → Type 0
IsIndexed n = (e : ℕ × ℕ) → contains edge_cmp n.sorted e ≡ list_any (same_edge e) (needs_of n)

-- a list with one element more, unless it is there
abbrev pub added : {X : Type 0} → (X → X → Bool) → List X → X → List X
added same xs x = if list_any (same x) xs then xs else xs ++ x ∷ []

-- only the edges of a network change
pub record KeepsNodes (old new : Network) : Type 0 where
  pub labels : new.labels ≡ old.labels
  pub paths : new.paths ≡ old.paths
  pub is_inverse : new.is_inverse ≡ old.is_inverse

-- a network gets an edge, unless it is there
pub record AddsEdge (old new : Network) (e : ℕ × ℕ) : Type 0 where
  pub nodes : KeepsNodes old new
  pub edges : needs_of new ≡ added same_edge (needs_of old) e
  pub indexed : IsIndexed new

-- a network without edges
pub record IsUnlinked (n : Network) : Type 0 where
  pub edges : n.edges.items ≡ []
  pub sorted : n.sorted.keys ≡ []

-- a network gets the edges of these needs
pub record HasNeeds (old : Network) (needs : List (ℕ × ℕ)) (new : Network) : Type 0 where
  pub nodes : KeepsNodes old new
  pub edges : needs_of new ≡ edges_of_needs old.is_inverse needs
  pub indexed : IsIndexed new

-- ## Packages

-- the labels of packages, their paths, and what they need
abbrev pub names_in : Packages → List (List ℕ)
names_in p = map string_bytes p.labels.items

abbrev pub paths_in : Packages → List (List ℕ)
paths_in p = map string_bytes p.paths.items

abbrev pub needs_in : Packages → List (ℕ × ℕ)
needs_in p = map ends p.needs.items

-- what they need is among them
abbrev pub AreWithin : Packages → Type 0
AreWithin p = All (IsWithin (length (names_in p))) (needs_in p)

-- a network is that of packages
pub record HasPackages (is_inverse : Bool) (p : Packages) (n : Network) : Type 0 where
  pub labels : n.labels ≡ p.labels
  pub paths : n.paths ≡ p.paths
  pub edges : needs_of n ≡ edges_of_needs is_inverse (needs_in p)
  pub indexed : IsIndexed n

-- packages are names, and what pairs of these need
pub record HasWords (names : List (List ℕ)) (pairs : List (List ℕ × List ℕ)) (p : Packages) : Type 0 where
  pub labels : names_in p ≡ names
  pub paths : p.paths.items ≡ []
  pub needs : needs_in p ≡ needs_between names pairs

-- packages are the words of the pairs in a source
pub record HoldsWords (source : Source) (p : Packages) : Type 0 where
  pub pairs : List (List ℕ × List ℕ)
  pub held : HoldsPairs source pairs
  pub some : pairs ≢ []
  pub names : List (List ℕ)
  pub are : AreNames pairs names
  pub has : HasWords names pairs p

-- they are what a source means
pub record AreRead (source : Source) (p : Packages) : Type 0 where
  pub understood : IsUnderstood source
  pub means : Means source understood (paths_in p) (names_in p) (needs_in p)

-- ## Marks

-- whether a node is marked
abbrev pub is_marked : List Bool → ℕ → Bool
is_marked marks node = slice_index_or marks node false

-- a set has each node that is marked
abbrev pub HasMarked : (ℕ → Bool) → List Bool → Type 0
HasMarked has marks = (n : ℕ) → is_marked marks n ≡ true → has n ≡ true

-- a set has what the edges from its nodes lead to, but for one node
abbrev pub IsClosedBut : List (ℕ × ℕ) → ℕ → (ℕ → Bool) → Type 0
IsClosedBut edges node has = (e : ℕ × ℕ) → Contains edges e → has e.0 ≡ true → (e.0 ≡ node) ⊎ (has e.1 ≡ true)

-- what edges lead to from a node is marked, and what was not is left
pub record MarksNeeds (edges : List (ℕ × ℕ)) (node : ℕ) (old new : List Bool) (left more : List ℕ) : Type 0 where
  pub size : length new ≡ length old
  pub kept : HasMarked (is_marked new) old
  pub still : All (Contains more) left
  pub added : (n : ℕ) → is_marked new n ≡ true → (is_marked old n ≡ true) ⊎ Contains more n
  pub needs : (e : ℕ × ℕ) → Contains edges e → e.0 ≡ node → e.1 < length old → is_marked new e.1 ≡ true
  pub found : (has : ℕ → Bool) → IsClosed edges has → has node ≡ true → HasMarked has old → HasEach has left → HasMarked has new × HasEach has more
  pub count : count_by not new + length more ≡ count_by not old + length left

-- all that edges lead to from a node is marked, and nothing else
pub record Reaches (edges : List (ℕ × ℕ)) (from : ℕ) (old new : List Bool) : Type 0 where
  pub size : length new ≡ length old
  pub kept : HasMarked (is_marked new) old
  pub found : (has : ℕ → Bool) → IsClosed edges has → has from ≡ true → HasMarked has old → HasMarked has new
  pub closed : All (λ e. e.1 < length old) edges → is_marked old from ≡ true → IsClosedBut edges from (is_marked old) → IsClosed edges (is_marked new)

-- some nodes of a list lead to all of it, and none of them to a later one, nor to an earlier one if no node
-- of the list does
pub record AreFirsts (edges : List (ℕ × ℕ)) (nodes firsts : List ℕ) : Type 0 where
  pub all : (has : ℕ → Bool) → IsClosed edges has → HasEach has firsts → HasEach has nodes
  pub apart : AllPairs (IsUnreached edges) firsts
  pub turned : AllPairs (λ t u. IsUnreached edges u t) nodes → AllPairs (λ t u. IsUnreached edges u t) firsts

-- ## Roots

-- the paths of a network's nodes
abbrev pub paths_of : Network → List (List ℕ)
paths_of n = map string_bytes n.paths.items

-- whether a name is all of a node with a label, or a part of it
abbrev pub is_meant : Bool → List (List ℕ) → List ℕ → ℕ → List ℕ → Bool
is_meant true paths name i label = bytes_eq label name || passes_at (λ path. bytes_eq path name) paths i
is_meant false paths name i label = is_labelled name label

-- the numbers below one that pass a test, in ascending order
abbrev pub passing : (ℕ → Bool) → ℕ → List ℕ
passing test n = filter test (range_with_len 0 n)

-- whether a name is all of a node, or a part of its label
abbrev pub means_node : Bool → List (List ℕ) → List (List ℕ) → List ℕ → ℕ → Bool
means_node is_whole labels paths name i = passes_at (is_meant is_whole paths name i) labels i

-- the nodes of which it is so
abbrev pub meant_nodes : Bool → Network → List ℕ → List ℕ
meant_nodes is_whole n name = passing (means_node is_whole (labels_of n) (paths_of n) name) (length (labels_of n))

-- the edges of a network, in both orders, are between its nodes
pub record IsWhole (n : Network) : Type 0 where
  pub indexed : IsIndexed n
  pub within : All (IsWithin (length (labels_of n))) (needs_of n)

-- some nodes of a network are those above all others
abbrev pub AreTopsOf : Network → List ℕ → Type 0
AreTopsOf n tops = IsWhole n → AreTops (needs_of n) (length (labels_of n)) tops

-- a root stands for these nodes
abbrev pub IsTopped : List ℕ → Network → Network → ℕ → Type 0
IsTopped label old new root = (tops : List ℕ) × All (λ t. t < length (labels_of old)) tops × AreTopsOf old tops × StandsAbove label (labels_of old) (needs_of old) tops (labels_of new) (needs_of new) root

-- the root of a network is the one that is asked for
abbrev pub HasRoot : Source → Option (Bor (List ℕ)) → Network → Network → ℕ → Type 0
HasRoot source name old new root = IsRooted source name (paths_of old) (labels_of old) (needs_of old) (labels_of new) (needs_of new) root

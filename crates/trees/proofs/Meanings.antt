-- Packages that a source means, and their networks.
use Rattle.trees.proofs.Common.{◌≡◌, ◌∙◌, ℕ, Bool, List, [], length, map, Bor, Option, sym, ap, subst, All, string_bytes, true≢false, All-map, All-weaker}
use Rattle.trees.specs.declared.deps.Dependencies.{Dependencies}
use Rattle.trees.specs.declared.deps.network.Network.{Network}
use Rattle.trees.specs.declared.deps.Packages.{Packages}
use Rattle.trees.specs.declared.source.Source.{Source}
use Rattle.trees.specs.Depending.{directed, needs_between, edges_of_needs, same_edge, AreNames, HoldsPairs, IsGraphIn, IsLockFile, IsNoName, IsPairFile, IsWithin}
use Rattle.trees.specs.DependingParts.{labels_of, names_in, needs_in, needs_of, paths_in, paths_of, AreRead, AreWithin, HasPackages, HoldsWords, IsWhole}
use Rattle.trees.specs.Meaning.{as_lock, as_pairs, HoldsNoGraph, IsGraphOf, IsUnderstood, Means}
use Rattle.trees.proofs.PairGraphs.{all_firsts, directed_within, words_within}
use Rattle.trees.proofs.Pairs.{pairs_unique}

-- the words of a source that is read as lines of two
pub words_read : (source : Source) (p : Packages) → IsPairFile source → HoldsWords source p → AreRead source p
words_read source p file is = record {
  understood = as_pairs is.pairs file is.held is.some;
  means = record {
    are = subst (AreNames is.pairs) (sym is.has.labels) is.are;
    pathless = ap (map string_bytes) is.has.paths;
    needed = is.has.needs ∙ ap (λ names. needs_between names is.pairs) (sym is.has.labels);
  };
}

-- the packages of one that is read as a lock file
pub lock_read : (source : Source) (p : Packages) → IsLockFile source → AreWithin p → AreRead source p
lock_read source p file within = record { understood = as_lock file; means = within }

-- what is needed is among the packages
means_within : (source : Source) (is : IsUnderstood source) (paths names : List (List ℕ)) (needs : List (ℕ × ℕ)) → Means source is paths names needs → All (IsWithin (length names)) needs
means_within source (as_pairs pairs file held some) paths names needs means = subst (All (IsWithin (length names))) (sym means.needed) (words_within pairs names means.are)
means_within source (as_lock file) paths names needs means = means

-- ## What is read

module _ (source : Source) (p : Packages) (read : AreRead source p) where
  pub read_within : AreWithin p
  read_within = means_within source read.understood (paths_in p) (names_in p) (needs_in p) read.means

  -- what is drawn of it is the graph that the source means
  pub graph_meant : (root : Option (Bor (List ℕ))) (is_inverse is_terminal : Bool) (d : Dependencies) → IsGraphIn source root is_terminal (paths_in p) (names_in p) (edges_of_needs is_inverse (needs_in p)) d → IsGraphOf source root is_inverse is_terminal d
  graph_meant root is_inverse is_terminal d drawn = record { understood = read.understood; paths = paths_in p; names = names_in p; needs = needs_in p; means = read.means; drawn = drawn }

  -- a name of none of the packages is no word of its pairs
  pub name_unmeant : (root : Option (Bor (List ℕ))) → IsNoName root (paths_in p) (names_in p) → HoldsNoGraph source root
  name_unmeant root none = λ pairs file held some. go pairs file held read.understood read.means none where
    go : (pairs : List (List ℕ × List ℕ)) → IsPairFile source → HoldsPairs source pairs → (is : IsUnderstood source) → Means source is (paths_in p) (names_in p) (needs_in p) → IsNoName root (paths_in p) (names_in p)
        → (names : List (List ℕ)) × AreNames pairs names × IsNoName root [] names
    go pairs file held (as_pairs qs g held' some') means none =
        (names_in p, subst (λ xs. AreNames xs (names_in p)) (pairs_unique qs pairs (sym held'.words ∙ held.words)) means.are, subst (λ ps. IsNoName root ps (names_in p)) means.pathless none)
    go pairs file held (as_lock g) means none = absurd (true≢false (sym g.lock ∙ file.lock))

-- ## Networks

module _ (is_inverse : Bool) (p : Packages) (n : Network) (has : HasPackages is_inverse p n) where
  same_labels : labels_of n ≡ names_in p
  same_labels = ap (λ v. map string_bytes v.items) has.labels

  same_paths : paths_of n ≡ paths_in p
  same_paths = ap (λ v. map string_bytes v.items) has.paths

  -- edges of needs among packages are between the nodes
  pub network_whole : AreWithin p → IsWhole n
  network_whole low =
      let count : ℕ = length (names_in p) in
      let needs = needs_in p in
      record {
        indexed = has.indexed;
        within = subst (λ names. All (IsWithin (length names)) (needs_of n)) (sym same_labels)
            (subst (All (IsWithin count)) (sym has.edges)
            (all_firsts (IsWithin count) same_edge (map (directed is_inverse) needs)
            (All-map (IsWithin count) (directed is_inverse) needs (All-weaker (IsWithin count) (λ e. IsWithin count (directed is_inverse e)) (directed_within is_inverse count) needs low))));
      }

  -- what is drawn of the network is the graph of the packages
  pub graph_drawn : (source : Source) (root : Option (Bor (List ℕ))) (is_terminal : Bool) (d : Dependencies) → IsGraphIn source root is_terminal (paths_of n) (labels_of n) (needs_of n) d
      → IsGraphIn source root is_terminal (paths_in p) (names_in p) (edges_of_needs is_inverse (needs_in p)) d
  graph_drawn source root is_terminal d drawn =
      subst (λ es. IsGraphIn source root is_terminal (paths_in p) (names_in p) es d) has.edges
      (subst (λ ls. IsGraphIn source root is_terminal (paths_in p) ls (needs_of n) d) same_labels (subst (λ ps. IsGraphIn source root is_terminal ps (labels_of n) (needs_of n) d) same_paths drawn))

  -- and what is none of its nodes is none of them
  pub name_missing : (root : Option (Bor (List ℕ))) → IsNoName root (paths_of n) (labels_of n) → IsNoName root (paths_in p) (names_in p)
  name_missing root none = subst (λ ls. IsNoName root (paths_in p) ls) same_labels (subst (λ ps. IsNoName root ps (labels_of n)) same_paths none)

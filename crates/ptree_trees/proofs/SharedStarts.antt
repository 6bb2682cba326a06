-- Paths that share a beginning.
use Rattle.std.proofs.Common.{◌≡◌, ◌≢◌, ℕ, Bool, true, false, eqb, List, [], ◌∷◌, ◌++◌, length, map, drop, refl, sym, ap, ◌∙◌, arith}
use Rattle.std.proofs.Math.Bool.{and_assoc, and-or_distrib_left, and-false}
use Rattle.std.proofs.lemmas.Bool.{eq-eqb, ne_eqb}
use Rattle.std.proofs.lemmas.List.{map-append}
use Rattle.std.proofs.lemmas.List.Elements.{All-head, All-tail}
use Rattle.std.proofs.lemmas.Slice.Eq.{bytes_eq-Decides}
use Rattle.std.specs.Borrow.{Bor}
use Rattle.std.specs.Cmp.{nat_cmp_is}
use Rattle.std.specs.Cmp.Lexicographic.{slice_cmp}
use Rattle.std.specs.List.{AllByRecursion}
use Rattle.std.specs.List.Sorted.{IsStrictlySortedBy}
use Rattle.std.specs.Ordering.{nat_cmp, ordering_then}
use Rattle.std.specs.Prelude.{All, ◌&&◌}
use Rattle.std.specs.Str.{bytes_eq}
use Rattle.std.specs.declared.cmp.Ordering.TheVariants.{Less, Equal}
use Rattle.ptree_trees.specs.Paths.{names, next_names, has_name, with_name, with_names, names_of, tails_of}
use Rattle.ptree_trees.specs.PathGroups.{PathGroup, group_names, AreNamesIn, AreGroups}
use Rattle.ptree_trees.specs.SharedStart.{AllStart, names_behind, with_start, started}
use Rattle.ptree.proofs.Trees.ItemTrees.{map_twice}
use Rattle.ptree_trees.proofs.PathTrees.{names_some}

-- ## Names

-- a text with no separator before a path is before its first name
names_start : (s : ℕ) (start rest : List ℕ) → All (λ b. b ≢ s) start → names s (start ++ rest) ≡ with_start start (names s rest)
names_start s [] rest h = grind arith
names_start s (b ∷ start) rest h = grind (arith, ne_eqb b s (All-head (λ b. b ≢ s) b start h), names_start s start rest (All-tail (λ b. b ≢ s) b start h), names_some s rest)

-- the names of paths are those of what follows their beginning, with that before each first name
pub names_started : (s : ℕ) (start : List ℕ) (paths : List (Bor (List ℕ))) → AllStart s start paths → names_of s paths ≡ map (with_start start) (names_behind s start paths)
names_started s start paths h = each paths h.each where
  each : (ps : List (Bor (List ℕ))) → AllByRecursion (λ p. p.now ≡ start ++ drop (length start) p.now) ps → names_of s ps ≡ map (with_start start) (names_behind s start ps)
  each [] a = refl
  each (p ∷ ps) a = let first = ap (names s) a.0 ∙ names_start s start (drop (length start) p.now) h.within in let rest = each ps a.1 in cc

-- ## Names with a beginning

-- the names with this text before each
abbrev all_started : List ℕ → List (List ℕ) → List (List ℕ)
all_started start ns = map (λ n. start ++ n) ns

-- two texts with one beginning are the same if what follows it is
bytes_start : (start x y : List ℕ) → bytes_eq (start ++ x) (start ++ y) ≡ bytes_eq x y
bytes_start [] x y = refl
bytes_start (b ∷ start) x y = ap (λ c. c && bytes_eq (start ++ x) (start ++ y)) (eq-eqb b b refl) ∙ bytes_start start x y

-- and their order is that of what follows it
order_start : (start x y : List ℕ) → slice_cmp nat_cmp (start ++ x) (start ++ y) ≡ slice_cmp nat_cmp x y
order_start [] x y = refl
order_start (b ∷ start) x y = ap (λ o. ordering_then o (slice_cmp nat_cmp (start ++ x) (start ++ y))) (sym (nat_cmp_is b b Equal refl)) ∙ order_start start x y

-- ascending names ascend with the text before each
ascend_started : (start : List ℕ) (ms : List (List ℕ)) → IsStrictlySortedBy (slice_cmp nat_cmp) ms → IsStrictlySortedBy (slice_cmp nat_cmp) (all_started start ms)
unfolding IsStrictlySortedBy
ascend_started start [] h = tt
ascend_started start (m ∷ ms) h = (above ms h.0, ascend_started start ms h.1) where
  above : (ks : List (List ℕ)) → AllByRecursion (λ k. slice_cmp nat_cmp m k ≡ Less) ks → AllByRecursion (λ k. slice_cmp nat_cmp (start ++ m) k ≡ Less) (all_started start ks)
  above [] a = tt
  above (k ∷ ks) a = (order_start start m k ∙ a.0, above ks a.1)

-- what follows a beginning of this length in a text
abbrev behind : List ℕ → List ℕ → List ℕ
behind start n = drop (length start) n

-- the text begins so
abbrev begins : List ℕ → List ℕ → Bool
begins start n = bytes_eq (start ++ behind start n) n

-- a text is the beginning and this one if it begins so and this one follows
is_started : (start m n : List ℕ) → bytes_eq (start ++ m) n ≡ (begins start n && bytes_eq m (behind start n))
is_started [] m n = ap (λ c. c && bytes_eq m n) (sym ((bytes_eq-Decides n n).1 refl))
is_started (b ∷ start) m [] = refl
is_started (b ∷ start) m (c ∷ n) = ap (λ d. eqb b c && d) (is_started start m n) ∙ sym (and_assoc (eqb b c) (begins start n) (bytes_eq m (behind start n)))

-- a name is among those with the text before each if it begins so and what follows is among them
has_started : (start : List ℕ) (ms : List (List ℕ)) (n : List ℕ) → has_name (all_started start ms) n ≡ (begins start n && has_name ms (behind start n))
has_started start [] n = sym (and-false (begins start n))
has_started start (m ∷ ms) n = rw (is_started start m n, has_started start ms n) (sym (and-or_distrib_left (begins start n) (bytes_eq m (behind start n)) (has_name ms (behind start n))))

-- a name with the text before it is if it was among them
has_start : (start : List ℕ) (ms : List (List ℕ)) (n : List ℕ) → has_name (all_started start ms) (start ++ n) ≡ has_name ms n
has_start start [] n = refl
has_start start (m ∷ ms) n = rw (bytes_start start m n, has_start start ms n)

-- names each once, with the text before each
with_started : (start : List ℕ) (ms ns : List (List ℕ)) → with_names (all_started start ms) (all_started start ns) ≡ all_started start (with_names ms ns)
with_started start ms [] = refl
with_started start ms (n ∷ ns) = grind (arith, has_start start ms n, with_started start (with_name ms n) ns, map-append (λ n. start ++ n) ms (n ∷ []))

-- the names of others stay so with the text before each of both
names_in_started : (b : Bool) (start : List ℕ) (ms ns : List (List ℕ)) → AreNamesIn b ms ns → AreNamesIn b (all_started start ms) (all_started start ns)
names_in_started true start ms ns h = (ascend_started start ms h.0, λ n. has_started start ms n ∙ ap (λ c. begins start n && c) (h.1 (behind start n)) ∙ sym (has_started start ns n))
names_in_started false start ms ns h = ap (all_started start) h ∙ sym (with_started start [] ns)

-- ## Groups

-- the names of groups with the text before them
group_names_started : (start : List ℕ) (gs : List PathGroup) → group_names (map (started start) gs) ≡ all_started start (group_names gs)
group_names_started start gs = sym (map_twice (started start) (λ (g : PathGroup). g.name) gs) ∙ map_twice (λ (g : PathGroup). g.name) (λ n. start ++ n) gs

-- the first names of paths with the text before them
next_started : (start : List ℕ) (paths : List (List (List ℕ))) → next_names [] (map (with_start start) paths) ≡ all_started start (next_names [] paths)
next_started start [] = refl
next_started start ([] ∷ paths) = next_started start paths
next_started start ((n ∷ q) ∷ paths) = ap (λ ns. (start ++ n) ∷ ns) (next_started start paths)

-- what follows a first name is what follows it with the text before
tails_started : (start n : List ℕ) (paths : List (List (List ℕ))) → tails_of (start ++ n) (map (with_start start) paths) ≡ tails_of n paths
tails_started start n [] = refl
tails_started start n ([] ∷ paths) = tails_started start n paths
tails_started start n ((m ∷ []) ∷ paths) = tails_started start n paths
tails_started start n ((m ∷ k ∷ q) ∷ paths) = rw (bytes_start start m n, tails_started start n paths)

-- the groups of what follows are those of the paths, with the beginning before their names
pub groups_started : (b : Bool) (s : ℕ) (start : List ℕ) (gs : List PathGroup) (paths : List (List (List ℕ))) → AreGroups b s gs paths → AreGroups b s (map (started start) gs) (map (with_start start) paths)
groups_started b s start gs paths h = (rw (group_names_started start gs, next_started start paths) (names_in_started b start (group_names gs) (next_names [] paths) h.0), tails gs h.1) where
  tails : (ks : List PathGroup) → AllByRecursion (λ g. map (names s) g.tails ≡ tails_of g.name paths) ks
      → AllByRecursion (λ g. map (names s) g.tails ≡ tails_of g.name (map (with_start start) paths)) (map (started start) ks)
  tails [] a = tt
  tails (g ∷ ks) a = (a.0 ∙ sym (tails_started start g.name paths), tails ks a.1)

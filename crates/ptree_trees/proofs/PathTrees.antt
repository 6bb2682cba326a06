-- Trees of paths.
use Rattle.std.proofs.Common.{◌≡◌, ◌≢◌, ℕ, ◌+◌, ◌<◌, ◌≤◌, Bool, true, false, cond, eqb, List, [], ◌∷◌, ◌++◌, length, refl, sym, ap, ◌∙◌, subst, arith}
use Rattle.std.proofs.Math.Bool.{or-false}
use Rattle.std.proofs.lemmas.Bool.{false≢true}
use Rattle.std.proofs.lemmas.Slice.Eq.{bytes_eq-Decides}
use Rattle.std.specs.Prelude.{◌||◌}
use Rattle.std.specs.Str.{bytes_eq}
use Rattle.ptree.specs.Tree.{Forest, none, item, Tree, forest}
use Rattle.std.specs.List.Sorted.{IsStrictlySortedBy}
use Rattle.ptree_trees.specs.Paths.{names, next_names, has_name, with_name, with_names, tops, below, texts_below, tails_of}
use Rattle.ptree_trees.specs.PathGroups.{AreNamesIn, IsForestIn}

-- ## Tails

-- a path has a name
pub names_some : (s : ℕ) (text : List ℕ) → names s text ≢ []
names_some s [] e = false≢true (ap (λ (xs : List (List ℕ)). eqb (length xs) 0) e)
names_some s (b ∷ t) e = grind arith

-- the tails of a path that goes on, and of others
pub tails_cons : (n m : List ℕ) (q : List (List ℕ)) (paths : List (List (List ℕ))) → q ≢ [] → tails_of n ((m ∷ q) ∷ paths) ≡ cond (bytes_eq m n) (q ∷ tails_of n paths) (tails_of n paths)
tails_cons n m [] paths h = absurd (h refl)
tails_cons n m (k ∷ q) paths h = refl

-- how many names paths have
abbrev pub weight : List (List (List ℕ)) → ℕ
weight [] = 0
weight (p ∷ paths) = length p + weight paths

-- tails have no more names
tails_light : (n : List ℕ) (paths : List (List (List ℕ))) → weight (tails_of n paths) ≤ weight paths
tails_light n [] = omega arith
tails_light n ([] ∷ paths) = let less = tails_light n paths in omega (arith, less)
tails_light n ((m ∷ []) ∷ paths) = let less = tails_light n paths in omega (arith, less)
tails_light n ((m ∷ k ∷ path) ∷ paths) = grind (arith, tails_light n paths)

-- and fewer, if a path begins with the name
pub tails_lighter : (n : List ℕ) (rest : List (List ℕ)) (q : List (List (List ℕ))) → weight (tails_of n ((n ∷ rest) ∷ q)) < weight ((n ∷ rest) ∷ q)
tails_lighter n [] q = let less = tails_light n q in omega (arith, less)
tails_lighter n (k ∷ path) q = grind (arith, tails_light n q)

-- a path more adds no fewer names than its tail
pub still_lighter : (n : List ℕ) (p : List (List ℕ)) (paths : List (List (List ℕ))) → weight (tails_of n paths) < weight paths → weight (tails_of n (p ∷ paths)) < weight (p ∷ paths)
still_lighter n [] paths less = omega (arith, less)
still_lighter n (m ∷ []) paths less = omega (arith, less)
still_lighter n (m ∷ k ∷ path) paths less = grind arith

-- so also if it is one of those of a path
pub tails_fewer : (n : List ℕ) (ps : List (List (List ℕ))) → has_name (next_names [] ps) n ≡ true → weight (tails_of n ps) < weight ps
tails_fewer n [] h = absurd (false≢true h)
tails_fewer n ([] ∷ ps) h = still_lighter n [] ps (tails_fewer n ps h)
tails_fewer n ((m ∷ q) ∷ ps) h = grind (arith, (bytes_eq-Decides m n).0, tails_lighter n q ps, tails_fewer n ps, still_lighter n (m ∷ q) ps)

-- ## Forests

-- the texts of trees with one more at the end
pub tops_push : (ts : List Tree) (t : Tree) → tops (forest (ts ++ t ∷ [])) ≡ tops (forest ts) ++ t.text ∷ []
tops_push [] t = refl
tops_push (x ∷ ts) t = ap (λ z. x.text ∷ z) (tops_push ts t)

-- below a name that was there is what was there
below_old : (ts : List Tree) (t : Tree) (n : List ℕ) → has_name (tops (forest ts)) n ≡ true → below (forest (ts ++ t ∷ [])) n ≡ below (forest ts) n
below_old [] t n h = absurd (false≢true h)
below_old (x ∷ ts) t n h = grind (arith, below_old ts t n)

-- below a name that was not there is what is below the new tree
below_new : (ts : List Tree) (t : Tree) (n : List ℕ) → has_name (tops (forest ts)) n ≡ false → bytes_eq t.text n ≡ true → below (forest (ts ++ t ∷ [])) n ≡ t.children
below_new [] t n h e = ap (λ b. cond b t.children none) e
below_new (x ∷ ts) t n h e = grind (arith, below_new ts t n)

-- below a name that is not there is nothing
pub below_none : (f : Forest) (n : List ℕ) → has_name (tops f) n ≡ false → below f n ≡ none
below_none none n h = refl
below_none (item t c r) n h = grind (arith, below_none r n)

-- and so on
pub texts_none : (ns : List (List ℕ)) → texts_below none ns ≡ []
texts_none [] = refl
texts_none (n ∷ ns) = texts_none ns

-- a name among names with one more at the end
pub has_push : (ms : List (List ℕ)) (m n : List ℕ) → has_name (ms ++ m ∷ []) n ≡ (has_name ms n || bytes_eq m n)
has_push [] m n = grind arith
has_push (k ∷ ms) m n = grind (arith, has_push ms m n)

-- what is among names and others is among both
has_with : (ms ns : List (List ℕ)) (n : List ℕ) → has_name (with_names ms ns) n ≡ (has_name ms n || has_name ns n)
has_with ms [] n = sym (or-false (has_name ms n))
has_with ms (k ∷ ns) n = grind (arith, has_with (with_name ms k) ns n, has_push ms k n, (bytes_eq-Decides k n).0)

-- what follows a name in the tails is what follows it and the names in the paths
pub tails_next : (n : List ℕ) (ns : List (List ℕ)) (paths : List (List (List ℕ))) → next_names ns (tails_of n paths) ≡ next_names (n ∷ ns) paths
tails_next n ns [] = refl
tails_next n ns ([] ∷ paths) = tails_next n ns paths
tails_next n ns ((m ∷ []) ∷ paths) = grind (arith, tails_next n ns paths)
tails_next n ns ((m ∷ k ∷ path) ∷ paths) = grind (arith, tails_next n ns paths)

-- if no path begins with a name, nothing follows it
pub next_none : (n : List ℕ) (ns : List (List ℕ)) (paths : List (List (List ℕ))) → has_name (next_names [] paths) n ≡ false → next_names (n ∷ ns) paths ≡ []
next_none n ns [] h = refl
next_none n ns ([] ∷ paths) h = next_none n ns paths h
next_none n ns ((m ∷ path) ∷ paths) h = grind (arith, next_none n ns paths)

-- no names are those of no paths
pub none_in : (b : Bool) → AreNamesIn b [] []
unfolding IsStrictlySortedBy
none_in true = (tt, λ n. refl)
none_in false = refl

-- names of others are the same names
pub names_have : (b : Bool) (ms ns : List (List ℕ)) → AreNamesIn b ms ns → (n : List ℕ) → has_name ms n ≡ has_name ns n
names_have true ms ns h n = h.1 n
names_have false ms ns h n = ap (λ z. has_name z n) h ∙ has_with [] ns n

-- below each name of a forest is the forest of the tails
pub record HasTails (b : Bool) (f : Forest) (paths : List (List (List ℕ))) : Type 0 where
  pub each : (n : List ℕ) → has_name (tops f) n ≡ true → IsForestIn b (below f n) (tails_of n paths)

-- a forest with these names, and with the tails below them, is that of the paths
pub forest_done : (b : Bool) (f : Forest) (paths : List (List (List ℕ))) → AreNamesIn b (tops f) (next_names [] paths) → HasTails b f paths → IsForestIn b f paths
forest_done b f paths e h [] = e
forest_done b f paths e h (n ∷ ns) = at (has_name (tops f) n) refl where
  at : (c : Bool) → has_name (tops f) n ≡ c → AreNamesIn b (texts_below (below f n) ns) (next_names (n ∷ ns) paths)
  at true k = subst (λ z. AreNamesIn b (texts_below (below f n) ns) z) (tails_next n ns paths) (h.each n k ns)
  at false k =
      let gone : texts_below (below f n) ns ≡ [] = ap (λ g. texts_below g ns) (below_none f n k) ∙ texts_none ns in
      let none : next_names (n ∷ ns) paths ≡ [] = next_none n ns paths (sym (names_have b (tops f) (next_names [] paths) e n) ∙ k) in
      subst (λ z. AreNamesIn b z (next_names (n ∷ ns) paths)) (sym gone) (subst (AreNamesIn b []) (sym none) (none_in b))

-- with a new tree, over the forest of its tails
pub tails_push : (b : Bool) (ts : List Tree) (t : Tree) (paths : List (List (List ℕ))) → HasTails b (forest ts) paths → IsForestIn b t.children (tails_of t.text paths) → HasTails b (forest (ts ++ t ∷ [])) paths
tails_push b ts t paths h new = record { each = λ n k. at n k (has_name (tops (forest ts)) n) refl } where
  at : (n : List ℕ) → has_name (tops (forest (ts ++ t ∷ []))) n ≡ true → (c : Bool) → has_name (tops (forest ts)) n ≡ c → IsForestIn b (below (forest (ts ++ t ∷ [])) n) (tails_of n paths)
  at n k true e = subst (λ z. IsForestIn b z (tails_of n paths)) (sym (below_old ts t n e)) (h.each n e)
  at n k false e =
      let same : bytes_eq t.text n ≡ true = ap (λ b. b || bytes_eq t.text n) (sym e) ∙ (sym (has_push (tops (forest ts)) t.text n) ∙ (ap (λ z. has_name z n) (sym (tops_push ts t)) ∙ k)) in
      subst (λ z. IsForestIn b z (tails_of n paths)) (sym (below_new ts t n e same)) (subst (λ z. IsForestIn b t.children (tails_of z paths)) ((bytes_eq-Decides t.text n).0 same) new)

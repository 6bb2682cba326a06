-- Cut paths, and the groups of them.
use Rattle.std.specs.List.{AllByRecursion}
use Rattle.std.specs.Option.{option_to_list}
use Rattle.std.specs.Prelude.{◌||◌, option_map}
use Rattle.std.specs.Str.{bytes_eq}
use Rattle.std.proofs.Common.{◌≡◌, ℕ, ◌+◌, Bool, true, false, cond, Option, Some, None, List, [], ◌∷◌, ◌++◌, map, length, refl, sym, ap, ◌∙◌, arith}
use Rattle.std.proofs.lemmas.List.{map-append}
use Rattle.ptree_trees.specs.Paths.{names, next_name, next_names, has_name, tails_of}
use Rattle.ptree_trees.proofs.PathTrees.{names_some, tails_cons}
use Rattle.ptree_trees.specs.CutName.{tail_names}
use Rattle.ptree_trees.specs.PathGroups.{Cut, AreCuts, named, tails_in, first_in, PathGroup, group_names, IsGrouping, index_of}

-- ## Cut paths

-- a name is that of a cut exactly if a path begins with it
pub cuts_have : (s i : ℕ) (cs : List Cut) (ps : List (List (List ℕ))) (n : List ℕ) → AreCuts s i cs ps → has_name (map (λ c. c.name) cs) n ≡ has_name (next_names [] ps) n
cuts_have s i [] [] n h = refl
cuts_have s i [] (p ∷ ps) n h = absurd h
cuts_have s i (c ∷ cs) [] n h = absurd h
cuts_have s i (c ∷ cs) (p ∷ ps) n h =
    ap (λ b. bytes_eq c.name n || b) (cuts_have s (i + 1) cs ps n h.2) ∙ ap (λ q. has_name (option_to_list (next_name [] q) ++ next_names [] ps) n) (sym h.0)

-- what follows a name in the cuts, cut itself, is what follows it in the paths
pub cuts_tails : (s i : ℕ) (cs : List Cut) (ps : List (List (List ℕ))) (n : List ℕ) → AreCuts s i cs ps → map (names s) (tails_in (named n cs)) ≡ tails_of n ps
cuts_tails s i [] [] n h = refl
cuts_tails s i [] (p ∷ ps) n h = absurd h
cuts_tails s i (c ∷ cs) [] n h = absurd h
cuts_tails s i (c ∷ cs) (p ∷ ps) n h = at (bytes_eq c.name n) (cuts_tails s (i + 1) cs ps n h.2) ∙ (sym (one c.tail) ∙ ap (λ q. tails_of n (q ∷ ps)) (sym h.0)) where
  one : (o : Option (List ℕ)) → tails_of n ((c.name ∷ tail_names s o) ∷ ps) ≡ cond (bytes_eq c.name n) (map (names s) (option_to_list o) ++ tails_of n ps) (tails_of n ps)
  one None = grind arith
  one (Some t) = tails_cons n c.name (names s t) ps (names_some s t)

  at : (b : Bool) → map (names s) (tails_in (named n cs)) ≡ tails_of n ps
      → map (names s) (tails_in (cond b (c ∷ named n cs) (named n cs))) ≡ cond b (map (names s) (option_to_list c.tail) ++ tails_of n ps) (tails_of n ps)
  at true more = map-append (names s) (option_to_list c.tail) (tails_in (named n cs)) ∙ ap (λ z. map (names s) (option_to_list c.tail) ++ z) more
  at false more = more

-- the first cut with a name has the number of the first path that begins with it
pub cuts_first : (s i : ℕ) (cs : List Cut) (ps : List (List (List ℕ))) (n : List ℕ) → AreCuts s i cs ps → first_in (named n cs) ≡ option_map (λ k. k + i) (index_of n (next_names [] ps))
cuts_first s i [] [] n h = refl
cuts_first s i [] (p ∷ ps) n h = absurd h
cuts_first s i (c ∷ cs) [] n h = absurd h
cuts_first s i (c ∷ cs) (p ∷ ps) n h = grind (arith, cuts_first s (i + 1) cs ps n h.2, h.0, h.1)

-- with the cut of one path more
pub cuts_more : (s i : ℕ) (cs : List Cut) (ps : List (List (List ℕ))) (c : Cut) (p : List (List ℕ)) → AreCuts s i cs ps → p ≡ c.name ∷ tail_names s c.tail → c.index ≡ i + length cs
    → AreCuts s i (cs ++ c ∷ []) (ps ++ p ∷ [])
cuts_more s i [] [] c p h e k = (e, omega (arith, k), tt)
cuts_more s i [] (q ∷ ps) c p h e k = absurd h
cuts_more s i (d ∷ cs) [] c p h e k = absurd h
cuts_more s i (d ∷ cs) (q ∷ ps) c p h e k = (h.0, h.1, cuts_more s (i + 1) cs ps c p h.2 e (omega (arith, k)))

-- ## Groups

-- no number more before
no_shift : (o : Option ℕ) → option_map (λ k. k + 0) o ≡ o
no_shift None = refl
no_shift (Some k) = let e : k + 0 ≡ k = omega arith in ap Some e

-- each group has what follows its name in the paths, and the number of the first of these
pub group_each : (s : ℕ) (cs : List Cut) (ps : List (List (List ℕ))) (gs : List PathGroup) → AreCuts s 0 cs ps → IsGrouping cs gs
    → AllByRecursion (λ g. (map (names s) g.tails ≡ tails_of g.name ps) × (Some g.first ≡ index_of g.name (next_names [] ps))) gs
group_each s cs ps gs h grouped = by_groups gs grouped.each where
  by_groups : (fs : List PathGroup) → AllByRecursion (λ g. (g.tails ≡ tails_in (named g.name cs)) × (Some g.first ≡ first_in (named g.name cs))) fs
      → AllByRecursion (λ g. (map (names s) g.tails ≡ tails_of g.name ps) × (Some g.first ≡ index_of g.name (next_names [] ps))) fs
  by_groups [] k = tt
  by_groups (g ∷ fs) k =
      ((ap (map (names s)) k.0.0 ∙ cuts_tails s 0 cs ps g.name h, k.0.1 ∙ (cuts_first s 0 cs ps g.name h ∙ no_shift (index_of g.name (next_names [] ps)))), by_groups fs k.1)

-- a name is that of a group exactly if a path begins with it
pub group_has : (s : ℕ) (cs : List Cut) (ps : List (List (List ℕ))) (gs : List PathGroup) → AreCuts s 0 cs ps → IsGrouping cs gs → (n : List ℕ)
    → has_name (group_names gs) n ≡ has_name (next_names [] ps) n
group_has s cs ps gs h grouped n = grouped.has n ∙ cuts_have s 0 cs ps n h

-- The groups of all paths.
use Rattle.std.specs.List.{AllByRecursion}
use Rattle.std.specs.List.Sorted.{IsNonDecreasingBy, IsPermutation}
use Rattle.std.proofs.Common.{◌≡◌, ℕ, ◌+◌, ◌<◌, ◌≤◌, true, false, Some, List, [], ◌∷◌, ◌++◌, map, length, get_or, take, ◌∙◌, sym, ap, subst, arith}
use Rattle.std.proofs.lemmas.List.{get_or-map, length-map, map_more, take_all}
use Rattle.std.proofs.lemmas.List.Elements.{All-from_recursion, recursion_from_All}
use Rattle.std.proofs.lemmas.List.Sorted.{All-permutation, IsPermutation-map}
use Rattle.ptree_trees.specs.declared.paths.cut.CutPath.{CutPath}
use Rattle.ptree_trees.specs.declared.paths.group.Group.{Group}
use Rattle.ptree_trees.specs.declared.paths.key.KeyedCut.{KeyedCut}
use Rattle.ptree_trees.specs.Paths.{names, next_names, tails_of}
use Rattle.ptree_trees.specs.PathGroups.{cut_of, keyed_cut, PathGroup, group_of, AreCuts, AreSortedCuts, IsGrouping, NoneAbove, IsPathGroups, AreGroups, index_of}
use Rattle.ptree_trees.proofs.CutLists.{group_each, group_has}
use Rattle.ptree_trees.proofs.NameOrders.{order_kept}
use Rattle.ptree_trees.proofs.PathGroupings.{grouping_moved}

-- one path more
pub group_more : (xs ys : List KeyedCut) (i : ℕ) (k : KeyedCut) (gs : List PathGroup) → AreSortedCuts xs ys → i < length ys → k ≡ get_or ys i k
    → (NoneAbove (map keyed_cut (take i ys)) k.cut.now.name.now → IsGrouping (map keyed_cut (take i ys) ++ keyed_cut k ∷ []) gs) → IsGrouping (map keyed_cut (take (i + 1) ys)) gs
group_more xs ys i k gs sorted l is added =
    let none = subst (λ z. NoneAbove (map keyed_cut (take i ys)) (keyed_cut z).name) (sym is) (sorted.ascending i k l) in
    let cuts : map keyed_cut (take (i + 1) ys) ≡ map keyed_cut (take i ys) ++ keyed_cut k ∷ [] =
    map_more keyed_cut ys i k l ∙ ap (λ z. map keyed_cut (take i ys) ++ keyed_cut z ∷ []) (sym is) in
    subst (λ z. IsGrouping z gs) (sym cuts) (added none)

-- all paths
pub groups_done : (s : ℕ) (cs : List CutPath) (xs ys : List KeyedCut) (i : ℕ) (gs : List PathGroup) (ps : List (List (List ℕ))) → AreCuts s 0 (map cut_of cs) ps → map keyed_cut xs ≡ map cut_of cs
    → AreSortedCuts xs ys → length ys ≤ i → IsGrouping (map keyed_cut (take i ys)) gs → IsPathGroups s gs ps
groups_done s cs xs ys i gs ps cuts same sorted l h =
    let cut = subst (λ z. AreCuts s 0 z ps) (sym same) cuts in
    let all : IsGrouping (map keyed_cut xs) gs = grouping_moved (map keyed_cut xs) (map keyed_cut ys) gs sorted.stable (subst (λ z. IsGrouping (map keyed_cut z) gs) (take_all i ys l) h) in
    record { ascending = all.ascending; has = group_has s (map keyed_cut xs) ps gs cut all; each = group_each s (map keyed_cut xs) ps gs cut all }

-- what follows a group's name in the paths is what the group has
abbrev HasTailsOf : ℕ → List (List (List ℕ)) → PathGroup → Type 0
HasTailsOf s ps g = map (names s) g.tails ≡ tails_of g.name ps

-- the group has the number of the first path with its name
abbrev IsFirstOf : List (List (List ℕ)) → PathGroup → Type 0
IsFirstOf ps g = Some g.first ≡ index_of g.name (next_names [] ps)

-- what is true of each in two ways is so in the first, and in the second
first_of_each : {X : Type 0} (P Q : X → Type 0) (xs : List X) → AllByRecursion (λ x. P x × Q x) xs → AllByRecursion P xs
first_of_each P Q [] h = tt
first_of_each P Q (x ∷ xs) h = (h.0.0, first_of_each P Q xs h.1)

second_of_each : {X : Type 0} (P Q : X → Type 0) (xs : List X) → AllByRecursion (λ x. P x × Q x) xs → AllByRecursion Q xs
second_of_each P Q [] h = tt
second_of_each P Q (x ∷ xs) h = (h.0.1, second_of_each P Q xs h.1)

-- in ascending order
pub groups_ascend : (s : ℕ) (gs : List PathGroup) (ps : List (List (List ℕ))) → IsPathGroups s gs ps → AreGroups true s gs ps
groups_ascend s gs ps h =
    ((h.ascending, h.has), first_of_each (HasTailsOf s ps) (IsFirstOf ps) gs h.each)

-- in the order of their first paths
pub groups_given : (s : ℕ) (gs hs : List Group) (ps : List (List (List ℕ))) → IsPermutation gs hs → IsNonDecreasingBy (λ g. (group_of g).first) hs → IsPathGroups s (map group_of gs) ps
    → AreGroups false s (map group_of hs) ps
groups_given s gs hs ps moved up h =
    let maps = IsPermutation-map group_of gs hs moved in
    let tails = first_of_each (HasTailsOf s ps) (IsFirstOf ps) (map group_of gs) h.each in
    let firsts = second_of_each (HasTailsOf s ps) (IsFirstOf ps) (map group_of gs) h.each in (
      order_kept (map group_of gs) (map group_of hs) (next_names [] ps) maps h.ascending h.has firsts (mapped hs up),
      recursion_from_All (HasTailsOf s ps) (map group_of hs) (All-permutation (HasTailsOf s ps) (map group_of gs) (map group_of hs) maps (All-from_recursion (HasTailsOf s ps) (map group_of gs) tails)),
    )
  where
    mapped : (xs : List Group) → IsNonDecreasingBy (λ g. (group_of g).first) xs → IsNonDecreasingBy (λ g. g.first) (map group_of xs)
    mapped [] up = λ i j d low l. absurd (omega (arith, l))
    mapped (x ∷ xs) up = λ i j d low l.
        let bound : j < length (x ∷ xs) = simp length-map at l in
        rw (get_or-map group_of (x ∷ xs) i x d (omega arith), get_or-map group_of (x ∷ xs) j x d bound) (up i j x low bound)

-- Trees of paths, one group after the other.
use Rattle.std.specs.List.{AllByRecursion}
use Rattle.std.proofs.Common.{◌≡◌, ℕ, zero, suc, ◌+◌, ◌<◌, ◌≤◌, Bool, true, List, [], ◌∷◌, ◌++◌, map, length, get_or, take, refl, sym, ap, ◌∙◌, subst, arith}
use Rattle.std.proofs.lemmas.List.{map-append, map_more, take_all}
use Rattle.std.proofs.lemmas.Slice.Eq.{bytes_eq-Decides}
use Rattle.std.specs.Borrow.{Bor}
use Rattle.ptree.proofs.Trees.ItemTrees.{map_twice}
use Rattle.ptree.specs.Tree.{Tree, tree, forest, tree_of}
use Rattle.ptree.specs.declared.item.StringItem.{StringItem}
use Rattle.ptree_trees.specs.declared.paths.group.Group.{Group}
use Rattle.ptree_trees.specs.Paths.{names, next_names, has_name, tops, texts_below, names_of, tails_of}
use Rattle.ptree_trees.specs.PathGroups.{PathGroup, group_of, group_names, AreNamesIn, AreGroups, IsForestIn}
use Rattle.ptree_trees.specs.SharedStart.{AllStart, names_behind, started}
use Rattle.ptree_trees.proofs.SharedStarts.{names_started, groups_started}
use Rattle.ptree_trees.proofs.PathTrees.{weight, tails_fewer, tails_push, tops_push, texts_none, none_in, names_have, HasTails, forest_done}

-- a group of what follows a text in paths, as a group of these
abbrev pub whole : List ℕ → Group → PathGroup
whole start g = started start (group_of g)

-- the groups of what follows a text in all paths are those of the paths
pub groups_whole : (b : Bool) (s : ℕ) (start : List ℕ) (gs : List Group) (xs : List (Bor (List ℕ))) → AllStart s start xs → AreGroups b s (map group_of gs) (names_behind s start xs) → AreGroups b s (map (whole start) gs) (names_of s xs)
groups_whole b s start gs xs all h =
    let started_groups = groups_started b s start (map group_of gs) (names_behind s start xs) h in
    subst (λ z. AreGroups b s z (names_of s xs)) (sym (map_twice group_of (started start) gs)) (subst (AreGroups b s (map (started start) (map group_of gs))) (sym (names_started s start xs all)) started_groups)

-- no paths have no items
pub forest_none : (b : Bool) (s : ℕ) (xs : List (Bor (List ℕ))) (items : List StringItem) → length xs ≡ 0 → items ≡ [] → IsForestIn b (forest (map tree_of items)) (names_of s xs)
forest_none b s [] items e are = λ ns. subst (λ z. AreNamesIn b z []) (sym (ap (λ z. texts_below (forest (map tree_of z)) ns) are ∙ texts_none ns)) (none_in b)
forest_none b s (x ∷ xs) items e are = absurd (omega (arith, e))

-- what is true of each is true of one
each_at : {X : Type 0} (f : X → PathGroup) (P : PathGroup → Type 0) (xs : List X) (i : ℕ) (d : X) → AllByRecursion P (map f xs) → i < length xs → P (f (get_or xs i d))
each_at f P [] i d h l = absurd (omega (arith, l))
each_at f P (x ∷ xs) zero d h l = h.0
each_at f P (x ∷ xs) (suc i) d h l = each_at f P xs i d h.1 (omega (arith, l))

-- the name of a group is among the names
name_there : {X : Type 0} (f : X → PathGroup) (xs : List X) (i : ℕ) (d : X) → i < length xs → has_name (group_names (map f xs)) (f (get_or xs i d)).name ≡ true
name_there f [] i d l = absurd (omega (arith, l))
name_there f (x ∷ xs) zero d l = grind (arith, (bytes_eq-Decides (f x).name (f x).name).1 refl)
name_there f (x ∷ xs) (suc i) d l = grind (arith, name_there f xs i d)

-- what follows the name of a group in the paths
tails_at : (b : Bool) (s : ℕ) (start : List ℕ) (gs : List Group) (i : ℕ) (g : Group) (xs passed : List (Bor (List ℕ))) → i < length gs → AreGroups b s (map (whole start) gs) (names_of s xs) → g ≡ get_or gs i g
    → passed ≡ g.tails.items → names_of s passed ≡ tails_of (start ++ g.name.now) (names_of s xs)
tails_at b s start gs i g xs passed l h is same =
    let tails = each_at (whole start) (λ g. map (names s) g.tails ≡ tails_of g.name (names_of s xs)) gs i g h.1 l in
    let own = subst (λ z. map (names s) (whole start z).tails ≡ tails_of (whole start z).name (names_of s xs)) (sym is) tails in
    ap (names_of s) same ∙ (map_twice (λ p. p.now) (names s) g.tails.items ∙ own)

-- the tails of a group have fewer names than the paths
pub fewer_names : (b : Bool) (s : ℕ) (start : List ℕ) (gs : List Group) (i : ℕ) (g : Group) (xs passed : List (Bor (List ℕ))) → i < length gs → AreGroups b s (map (whole start) gs) (names_of s xs) → g ≡ get_or gs i g
    → passed ≡ g.tails.items → (t : ℕ) → weight (names_of s xs) ≡ t → weight (names_of s passed) < t
fewer_names b s start gs i g xs passed l h is same t bound =
    let name = start ++ g.name.now in
    let own : has_name (group_names (map (whole start) gs)) name ≡ true = ap (λ z. has_name (group_names (map (whole start) gs)) (whole start z).name) is ∙ name_there (whole start) gs i g l in
    let there : has_name (next_names [] (names_of s xs)) name ≡ true = sym (names_have b (group_names (map (whole start) gs)) (next_names [] (names_of s xs)) h.0 name) ∙ own in
    let fewer = tails_fewer name (names_of s xs) there in
    let counted : weight (names_of s passed) ≡ weight (tails_of name (names_of s xs)) = ap weight (tails_at b s start gs i g xs passed l h is same) in
    omega (arith, fewer, counted, bound)

-- one item more
pub item_pushed : (b : Bool) (s : ℕ) (start : List ℕ) (gs : List Group) (i : ℕ) (g : Group) (xs passed : List (Bor (List ℕ))) (old new : List StringItem) (made : StringItem) (children : List StringItem)
    → i < length gs → AreGroups b s (map (whole start) gs) (names_of s xs) → g ≡ get_or gs i g → passed ≡ g.tails.items → tree_of made ≡ tree (start ++ g.name.now) (forest (map tree_of children))
    → new ≡ old ++ made ∷ [] → IsForestIn b (forest (map tree_of children)) (names_of s passed)
    → tops (forest (map tree_of old)) ≡ group_names (map (whole start) (take i gs)) → HasTails b (forest (map tree_of old)) (names_of s xs)
    → (tops (forest (map tree_of new)) ≡ group_names (map (whole start) (take (i + 1) gs))) × HasTails b (forest (map tree_of new)) (names_of s xs)
item_pushed b s start gs i g xs passed old new made children l h is same made_is pushed kids names_are each =
    let t : Tree = tree (start ++ g.name.now) (forest (map tree_of children)) in
    let trees : map tree_of new ≡ map tree_of old ++ t ∷ [] = ap (map tree_of) pushed ∙ (map-append tree_of old (made ∷ []) ∙ ap (λ z. map tree_of old ++ z ∷ []) made_is) in
    let name_of : Group → List ℕ = λ z. start ++ z.name.now in
    let so_far : (zs : List Group) → group_names (map (whole start) zs) ≡ map name_of zs = λ zs. sym (map_twice (whole start) (λ (z : PathGroup). z.name) zs) in
    let more : group_names (map (whole start) (take (i + 1) gs)) ≡ group_names (map (whole start) (take i gs)) ++ (start ++ g.name.now) ∷ [] =
    so_far (take (i + 1) gs) ∙ (map_more name_of gs i g l ∙ (ap (λ z. map name_of (take i gs) ++ name_of z ∷ []) (sym is) ∙ ap (λ z. z ++ (start ++ g.name.now) ∷ []) (sym (so_far (take i gs))))) in (
      ap (λ z. tops (forest z)) trees ∙ (tops_push (map tree_of old) t ∙ (ap (λ z. z ++ (start ++ g.name.now) ∷ []) names_are ∙ sym more)),
      subst (λ z. HasTails b (forest z) (names_of s xs)) (sym trees)
          (tails_push b (map tree_of old) t (names_of s xs) each (subst (IsForestIn b (forest (map tree_of children))) (tails_at b s start gs i g xs passed l h is same) kids)),
    )

-- all items
pub items_done : (b : Bool) (s : ℕ) (start : List ℕ) (gs : List Group) (i : ℕ) (xs : List (Bor (List ℕ))) (items : List StringItem) → length gs ≤ i → AreGroups b s (map (whole start) gs) (names_of s xs)
    → tops (forest (map tree_of items)) ≡ group_names (map (whole start) (take i gs)) → HasTails b (forest (map tree_of items)) (names_of s xs) → IsForestIn b (forest (map tree_of items)) (names_of s xs)
items_done b s start gs i xs items l h names_are each =
    let all : tops (forest (map tree_of items)) ≡ group_names (map (whole start) gs) = names_are ∙ ap (λ z. group_names (map (whole start) z)) (take_all i gs l) in
    forest_done b (forest (map tree_of items)) (names_of s xs) (subst (λ z. AreNamesIn b z (next_names [] (names_of s xs))) (sym all) h.0) each

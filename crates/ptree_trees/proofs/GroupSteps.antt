-- Groups of paths, one path after another.
use Rattle.std.specs.Borrow.{Bor}
use Rattle.std.specs.Prelude.{option_map}
use Rattle.std.proofs.Common.{◌≡◌, ◌∙◌, ℕ, ◌+◌, ◌<◌, ◌≤◌, List, [], ◌∷◌, ◌++◌, map, length, get_or, set, take, drop, sym, ap, subst, arith}
use Rattle.std.proofs.Math.Seq.{set-append_seam}
use Rattle.std.proofs.lemmas.List.{map-append, map_more, take_all, take_more, length-map, length-take, set-get_or, map_push}
use Rattle.ptree_trees.specs.declared.paths.cut.CutPath.{CutPath}
use Rattle.ptree_trees.specs.declared.paths.group.Group.{Group}
use Rattle.ptree_trees.specs.CutName.{tail_names}
use Rattle.ptree_trees.specs.Paths.{names}
use Rattle.ptree_trees.specs.PathGroups.{Cut, cut_of, group_of, group_from, with_tail, AreCuts, IsGrouping, NoneAbove}
use Rattle.ptree_trees.specs.SharedStart.{names_behind}
use Rattle.ptree_trees.proofs.CutLists.{cuts_more}
use Rattle.ptree_trees.proofs.PathGroupings.{grouping_first, grouping_same, grouping_next}

-- what follows a text in one path more is cut
pub cut_pushed : (s : ℕ) (start : List ℕ) (xs : List (Bor (List ℕ))) (i : ℕ) (d : Bor (List ℕ)) (old new : List CutPath) (c : CutPath) → i < length xs
    → AreCuts s 0 (map cut_of old) (names_behind s start (take i xs)) → names s (drop (length start) (get_or xs i d).now) ≡ c.name.now ∷ tail_names s (option_map (λ t. t.now) c.tail) → c.index ≡ length old
    → new ≡ old ++ c ∷ [] → AreCuts s 0 (map cut_of new) (names_behind s start (take (i + 1) xs))
cut_pushed s start xs i d old new c l so_far name index pushed =
    let cuts : map cut_of new ≡ map cut_of old ++ cut_of c ∷ [] = ap (map cut_of) pushed ∙ map-append cut_of old (c ∷ []) in
    let behind : Bor (List ℕ) → List (List ℕ) = λ p. names s (drop (length start) p.now) in
    let paths = map_more behind xs i d l in
    let counted : c.index ≡ 0 + length (map cut_of old) = index ∙ (sym (length-map old cut_of) ∙ omega arith) in
    subst (λ z. AreCuts s 0 z (names_behind s start (take (i + 1) xs))) (sym cuts)
    (subst (AreCuts s 0 (map cut_of old ++ cut_of c ∷ [])) (sym paths) (cuts_more s 0 (map cut_of old) (names_behind s start (take i xs)) (cut_of c) (behind (get_or xs i d)) so_far name counted))

-- a list, and the list with another last element
split_last : {X : Type 0} (xs : List X) (k : ℕ) (x y : X) → length xs ≡ k + 1 → x ≡ get_or xs k x → (xs ≡ take k xs ++ x ∷ []) × (set xs k y ≡ take k xs ++ y ∷ [])
split_last xs k x y e is =
    let whole : xs ≡ take k xs ++ x ∷ [] = sym (take_all (k + 1) xs (omega (arith, e))) ∙ (take_more xs k x (omega (arith, e)) ∙ ap (λ z. take k xs ++ z ∷ []) (sym is)) in
    let front : length (take k xs) ≡ k = length-take k xs ∙ omega (arith, e) in
    (whole, ap (λ z. set z k y) whole ∙ (ap (λ j. set (take k xs ++ x ∷ []) j y) (sym front) ∙ set-append_seam (take k xs) x [] y))

-- a path of the last group's name
pub group_same : (gs : List Group) (k : ℕ) (g made : Group) (c : Cut) → length gs ≡ k + 1 → g ≡ get_or gs k g → g.name.now ≡ c.name
    → group_of made ≡ with_tail (group_of g) c → (cuts : List Cut) → IsGrouping cuts (map group_of gs) → IsGrouping (cuts ++ c ∷ []) (map group_of (set gs k made))
group_same gs k g made c e is same added cuts h =
    let parts = split_last gs k g made e is in
    let front = take k gs in
    let old : map group_of gs ≡ map group_of front ++ group_of g ∷ [] = ap (map group_of) parts.0 ∙ map_push group_of front g in
    let new : map group_of (set gs k made) ≡ map group_of front ++ with_tail (group_of g) c ∷ [] =
    ap (map group_of) parts.1 ∙ (map_push group_of front made ∙ ap (λ z. map group_of front ++ z ∷ []) added) in
    subst (IsGrouping (cuts ++ c ∷ [])) (sym new)
    (grouping_same cuts (map group_of front) (group_of g) c (subst (IsGrouping cuts) old h) same)

-- a path of another name
pub group_next : (gs mid new : List Group) (k : ℕ) (g made : Group) (c : Cut) → length gs ≡ k + 1 → g ≡ get_or gs k g → (g.name.now ≡ c.name → ⊥)
    → group_of made ≡ group_from c → new ≡ mid ++ made ∷ [] → mid ≡ gs → (cuts : List Cut) → IsGrouping cuts (map group_of gs) → NoneAbove cuts c.name
    → IsGrouping (cuts ++ c ∷ []) (map group_of new)
group_next gs mid new k g made c e is other added pushed same cuts h none =
    let parts = split_last gs k g made e is in
    let front = take k gs in
    let old : map group_of gs ≡ map group_of front ++ group_of g ∷ [] = ap (map group_of) parts.0 ∙ map_push group_of front g in
    let whole : map group_of new ≡ (map group_of front ++ group_of g ∷ []) ++ group_from c ∷ [] =
    ap (map group_of) (pushed ∙ ap (λ z. z ++ made ∷ []) same) ∙ (map_push group_of gs made ∙ (ap (λ z. z ++ group_of made ∷ []) old ∙ ap (λ z. (map group_of front ++ group_of g ∷ []) ++ z ∷ []) added)) in
    subst (IsGrouping (cuts ++ c ∷ [])) (sym whole)
    (grouping_next cuts (map group_of front) (group_of g) c (subst (IsGrouping cuts) old h) none other)

-- the first path
pub group_first : (gs mid new : List Group) (made : Group) (c : Cut) → length gs ≤ 0 → group_of made ≡ group_from c → new ≡ mid ++ made ∷ [] → mid ≡ gs
    → (cuts : List Cut) → IsGrouping cuts (map group_of gs) → IsGrouping (cuts ++ c ∷ []) (map group_of new)
group_first [] mid new made c l added pushed same cuts h =
    subst (IsGrouping (cuts ++ c ∷ [])) (sym (ap (map group_of) (pushed ∙ ap (λ z. z ++ made ∷ []) same) ∙ ap (λ z. z ∷ []) added)) (grouping_first cuts c h)
group_first (g ∷ gs) mid new made c l added pushed same cuts h = absurd (omega (arith, l))

-- a list is the same with its own element
pub still : (gs : List Group) (k : ℕ) (g : Group) → g ≡ get_or gs k g → set gs k g ≡ gs
still gs k g is = ap (set gs k) is ∙ set-get_or gs k g

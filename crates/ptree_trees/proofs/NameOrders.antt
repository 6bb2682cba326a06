-- The order of the names of groups.
use Rattle.std.specs.Cmp.Lexicographic.{slice_cmp}
use Rattle.std.specs.List.{AllByRecursion, sum_by}
use Rattle.std.specs.List.Sorted.{IsPermutation, IsNonDecreasingBy, IsStrictlySortedBy}
use Rattle.std.specs.Ordering.{nat_cmp}
use Rattle.std.specs.Prelude.{◌||◌, ◌&&◌, not, option_map, ⊤}
use Rattle.std.specs.Str.{bytes_eq}
use Rattle.std.specs.declared.cmp.Ordering.TheVariants.{Less}
use Rattle.std.proofs.Common.{◌≡◌, ℕ, suc, ◌+◌, ◌<◌, ◌≤◌, Bool, true, false, cond, Some, List, [], ◌∷◌, ◌++◌, refl, sym, ap, ◌∙◌, append-nil, append_assoc, arith}
use Rattle.std.proofs.lemmas.List.Elements.{All-from_recursion, recursion_from_All}
use Rattle.std.proofs.lemmas.List.Sorted.{All-permutation, sum_by-IsPermutation}
use Rattle.std.proofs.lemmas.List.Sums.{sum_by-cons}
use Rattle.std.proofs.lemmas.Map.Text.{is_eq-slice_cmp}
use Rattle.std.proofs.lemmas.Slice.Eq.{bytes_eq-Decides}
use Rattle.ptree_trees.proofs.PathTrees.{has_push}
use Rattle.ptree_trees.specs.Paths.{has_name, with_names}
use Rattle.ptree_trees.specs.PathGroups.{PathGroup, group_names, index_of}

-- how many groups have a name
abbrev pub count_named : List ℕ → List PathGroup → ℕ
count_named n gs = sum_by (λ g. cond (bytes_eq g.name n) 1 0) gs

-- one group more
count_more : (n : List ℕ) (g : PathGroup) (gs : List PathGroup) → count_named n (g ∷ gs) ≡ cond (bytes_eq g.name n) 1 0 + count_named n gs
count_more n g gs = sum_by-cons (λ g. cond (bytes_eq g.name n) 1 0) g gs

-- two names are the same either way round
pub same_flip : (a b : List ℕ) → bytes_eq a b ≡ bytes_eq b a
same_flip a b = grind (arith, bytes_eq-Decides a b, bytes_eq-Decides b a)

-- ## Names that ascend

-- a name is not among those above it
above_absent : (m : List ℕ) (ms : List (List ℕ)) (n : List ℕ) → AllByRecursion (λ y. slice_cmp nat_cmp m y ≡ Less) ms → bytes_eq m n ≡ true → has_name ms n ≡ false
above_absent m [] n h e = refl
above_absent m (k ∷ ms) n h e = grind (arith, above_absent m ms n h.1 e, bytes_eq-Decides m k, bytes_eq-Decides m n, bytes_eq-Decides k n, is_eq-slice_cmp m k, h.0)

-- in strictly ascending names each stands once
pub ascending_once : (gs : List PathGroup) (n : List ℕ) → IsStrictlySortedBy (slice_cmp nat_cmp) (group_names gs) → count_named n gs ≡ cond (has_name (group_names gs) n) 1 0
unfolding IsStrictlySortedBy
ascending_once [] n h = refl
ascending_once (g ∷ gs) n h = count_more n g gs ∙ grind (arith, ascending_once gs n h.1, above_absent g.name (group_names gs) n h.0)

-- ## Names in the order of their first places

-- no group is before one that stands earlier
abbrev Rising : List PathGroup → Type 0
Rising [] = ⊤
Rising (g ∷ gs) = AllByRecursion (λ h. g.first ≤ h.first) gs × Rising gs

-- groups that do not decrease are such
rising : (gs : List PathGroup) → IsNonDecreasingBy (λ g. g.first) gs → Rising gs
rising [] h = tt
rising (g ∷ gs) h = (
  recursion_from_All (λ k. g.first ≤ k.first) gs (λ i d l. h 0 (suc i) d (omega arith) (omega arith)),
  rising gs (λ i j d le l. h (suc i) (suc j) d (omega arith) (omega arith)),
)

-- a group is at the first place of its name, if so many names were before these
abbrev IsPlaced : ℕ → List (List ℕ) → PathGroup → Type 0
IsPlaced k ns g = Some g.first ≡ option_map (λ i. i + k) (index_of g.name ns)

-- a group of another name is placed among the names behind the first
placed_behind : (k : ℕ) (n : List ℕ) (ns : List (List ℕ)) (g : PathGroup) → bytes_eq n g.name ≡ false → IsPlaced k (n ∷ ns) g → IsPlaced (k + 1) ns g
placed_behind k n ns g other h = grind arith

-- so it comes later than the first
placed_later : (k : ℕ) (ns : List (List ℕ)) (g : PathGroup) → IsPlaced (k + 1) ns g → k < g.first
placed_later k ns g h = grind arith

-- groups of which none has the first name are placed among the names behind it
all_behind : (k : ℕ) (n : List ℕ) (ns : List (List ℕ)) (gs : List PathGroup) → count_named n gs ≡ 0 → AllByRecursion (IsPlaced k (n ∷ ns)) gs → AllByRecursion (IsPlaced (k + 1) ns) gs
all_behind k n ns [] none h = tt
all_behind k n ns (g ∷ gs) none h =
    let more = count_more n g gs in
    (placed_behind k n ns g (grind (arith, more, same_flip n g.name)) h.0, all_behind k n ns gs (omega (arith, more)) h.1)

-- the group of the first name is at its place, so what is not above any group is not above this place
first_least : (k : ℕ) (n : List ℕ) (ns : List (List ℕ)) (f : ℕ) (gs : List PathGroup) → count_named n gs ≡ 1 → AllByRecursion (IsPlaced k (n ∷ ns)) gs → AllByRecursion (λ h. f ≤ h.first) gs → f ≤ k
first_least k n ns f [] one h low = absurd (omega (arith, one))
first_least k n ns f (g ∷ gs) one h low =
    let more : count_named n gs ≡ 1 → f ≤ k = λ c. first_least k n ns f gs c h.1 low.1 in
    grind (arith, count_more n g gs, more, h.0, low.0, same_flip n g.name)

-- one for what is new and was not before
abbrev new_one : Bool → Bool → ℕ
new_one new old = cond (new && not old) 1 0

-- there is none of what was before
none_old : (new old : Bool) → old ≡ true → new_one new old ≡ 0
none_old new old e = grind arith

-- one group for each of the names that is not among those before
abbrev OnceNew : List (List ℕ) → List (List ℕ) → List PathGroup → Type 0
OnceNew ms ns gs = (n : List ℕ) → count_named n gs ≡ new_one (has_name ns n) (has_name ms n)

-- the same behind a name that was among those before
once_old : (ms : List (List ℕ)) (n : List ℕ) (ns : List (List ℕ)) (gs : List PathGroup) → has_name ms n ≡ true → OnceNew ms (n ∷ ns) gs → OnceNew ms ns gs
once_old ms n ns gs old h m = grind (arith, h m, (bytes_eq-Decides n m).0)

-- the first name, if it is new, has one group
once_first : (ms : List (List ℕ)) (n : List ℕ) (ns : List (List ℕ)) (gs : List PathGroup) → has_name ms n ≡ false → OnceNew ms (n ∷ ns) gs → count_named n gs ≡ 1
once_first ms n ns gs new h = h n ∙ (ap (λ b. new_one (b || has_name ns n) (has_name ms n)) ((bytes_eq-Decides n n).1 refl) ∙ ap (new_one true) new)

-- and the other groups are those of the other names
once_new : (ms : List (List ℕ)) (n : List ℕ) (ns : List (List ℕ)) (g : PathGroup) (gs : List PathGroup) → g.name ≡ n → count_named n gs ≡ 0 → OnceNew ms (n ∷ ns) (g ∷ gs) → OnceNew (ms ++ n ∷ []) ns gs
once_new ms n ns g gs same none h m = grind (arith, count_more m g gs, h m, has_push ms n m, (bytes_eq-Decides n m).0, same, none)

-- a group that is placed, and not behind that of the first name, is that one
first_is : (k : ℕ) (n : List ℕ) (ns : List (List ℕ)) (g : PathGroup) (gs : List PathGroup) → count_named n (g ∷ gs) ≡ 1 → AllByRecursion (IsPlaced k (n ∷ ns)) (g ∷ gs) → Rising (g ∷ gs)
    → (g.name ≡ n) × (count_named n gs ≡ 0)
first_is k n ns g gs one h low =
    let least : count_named n gs ≡ 1 → g.first ≤ k = λ c. first_least k n ns g.first gs c h.1 low.0 in
    let later : bytes_eq g.name n ≡ false → k < g.first = λ e. placed_later k ns g (placed_behind k n ns g (same_flip n g.name ∙ e) h.0) in
    grind (arith, count_more n g gs, (bytes_eq-Decides g.name n).0, least, later)

-- behind names that were before, groups of each other name, in the order of their first places, are
-- in the order of these names
abbrev AreInOrder : List (List ℕ) → Type 0
AreInOrder ns = (ms : List (List ℕ)) (k : ℕ) (gs : List PathGroup) → OnceNew ms ns gs → AllByRecursion (IsPlaced k ns) gs → Rising gs → ms ++ group_names gs ≡ with_names ms ns

-- so it is with a new name more
in_order_new : (n : List ℕ) (ns ms : List (List ℕ)) (k : ℕ) (gs : List PathGroup) → AreInOrder ns → has_name ms n ≡ false → OnceNew ms (n ∷ ns) gs → AllByRecursion (IsPlaced k (n ∷ ns)) gs → Rising gs
    → ms ++ group_names gs ≡ with_names (ms ++ n ∷ []) ns
in_order_new n ns ms k [] more e once h low = let one = once_first ms n ns [] e once in absurd (omega (arith, one))
in_order_new n ns ms k (g ∷ gs) more e once h low =
    let is = first_is k n ns g gs (once_first ms n ns (g ∷ gs) e once) h low in
    ap (λ z. ms ++ z ∷ group_names gs) is.0
    ∙ (sym (append_assoc ms (n ∷ []) (group_names gs)) ∙ more (ms ++ n ∷ []) (k + 1) gs (once_new ms n ns g gs is.0 is.1 once) (all_behind k n ns gs is.1 h.1) low.1)

-- and with any
in_order_behind : (ns : List (List ℕ)) → AreInOrder ns
in_order_behind [] ms k [] once h low = append-nil ms
in_order_behind [] ms k (g ∷ gs) once h low = let none = h.0 in absurd (cc)
in_order_behind (n ∷ ns) ms k gs once h low = at (has_name ms n) refl (in_order_behind ns) where
  at : (b : Bool) → has_name ms n ≡ b → AreInOrder ns → ms ++ group_names gs ≡ with_names (cond b ms (ms ++ n ∷ [])) ns
  at true e more = more ms (k + 1) gs (once_old ms n ns gs e once) (all_behind k n ns gs (once n ∙ none_old (bytes_eq n n || has_name ns n) (has_name ms n) e) h) low
  at false e more = in_order_new n ns ms k gs more e once h low

-- names that stand once each, in the order of their first places, are the names in the order in which
-- they come first
pub in_order_of_first : (gs : List PathGroup) (ns : List (List ℕ)) → ((n : List ℕ) → count_named n gs ≡ cond (has_name ns n) 1 0) → AllByRecursion (λ g. Some g.first ≡ index_of g.name ns) gs
    → IsNonDecreasingBy (λ g. g.first) gs
    → group_names gs ≡ with_names [] ns
in_order_of_first gs ns once h low = in_order_behind ns [] 0 gs (λ n. grind (arith, once n)) (placed gs h) (rising gs low) where
  placed : (gs : List PathGroup) → AllByRecursion (λ g. Some g.first ≡ index_of g.name ns) gs → AllByRecursion (IsPlaced 0 ns) gs
  placed [] h = tt
  placed (g ∷ gs) h = (grind (arith, h.0), placed gs h.1)

-- groups with ascending names, in the order of their first places, have the names in the order in
-- which they come first
pub order_kept : (gs hs : List PathGroup) (ns : List (List ℕ)) → IsPermutation gs hs → IsStrictlySortedBy (slice_cmp nat_cmp) (group_names gs)
    → ((n : List ℕ) → has_name (group_names gs) n ≡ has_name ns n) → AllByRecursion (λ g. Some g.first ≡ index_of g.name ns) gs → IsNonDecreasingBy (λ g. g.first) hs
    → group_names hs ≡ with_names [] ns
order_kept gs hs ns moved sorted same h low = in_order_of_first hs ns once placed low where
  once : (n : List ℕ) → count_named n hs ≡ cond (has_name ns n) 1 0
  once n = sum_by-IsPermutation (λ g. cond (bytes_eq g.name n) 1 0) gs hs moved ∙ (ascending_once gs n sorted ∙ ap (λ b. cond b 1 0) (same n))

  placed : AllByRecursion (λ g. Some g.first ≡ index_of g.name ns) hs
  placed =
      let P : PathGroup → Type 0 = λ g. Some g.first ≡ index_of g.name ns in
      recursion_from_All P hs (All-permutation P gs hs moved (All-from_recursion P gs h))

-- How many levels there are below something.
use Rattle.trees.proofs.Common.{◌≡◌, ℕ, zero, suc, ◌+◌, ◌-◌, ◌<◌, ◌≤◌, ◌==◌, min, Bool, true, false, not, if◌then◌else◌, IsTrue, ◌⊎◌, inl, inr, ◌↔◌, List, [], ◌∷◌, ◌++◌, length, length-append, map, take, drop, get_or, Any, Option, Some, None, is_some, option_map, option_and_then, slice_get, ap, refl, sym, ◌∙◌, subst, arith, at, neighbors_of, NodeIndex}
use Rattle.std.proofs.lemmas.Bool.{cases_lt, eqb-true}
use Rattle.std.proofs.lemmas.List.{take_all, drop_all, length-drop}
use Rattle.std.proofs.lemmas.Option.{slice_get_within, slice_get_read, slice_get-map, slice_get-get_or, get_or_from_slice_get}
use Rattle.ptree.specs.Occurrence.{OccurrenceTree, IsExpandedOnce, HasOneTree, occurrence_kids, tree_places, size_below, trees_in, first_tree}
use Rattle.ptree.specs.declared.graph.places.Place.{Place}
use Rattle.ptree.proofs.Drawing.Subtrees.{at-append}
use Rattle.ptree.proofs.Graphs.Places.{trees_none, trees_first, kids_at_place}
use Rattle.trees.specs.declared.levels.Walks.{Walks}
use Rattle.trees.specs.declared.levels.Walks.TheVariants.{Longest}
use Rattle.trees.specs.Levels.{HasLevel, HasMoreLevels, IsHeight, Leads, walks_from, AreRight, IsWalked}

-- some element is the first one or a later one
pub any_first : {X : Type 0} (P : X → Type 0) (x : X) (xs : List X) → Any P (x ∷ xs) ↔ (P x ⊎ Any P xs)
any_first P x xs = (into, from) where
  into : Any P (x ∷ xs) → P x ⊎ Any P xs
  into (zero, y, low, is, holds) = inl (subst P (sym is) holds)
  into (suc k, y, low, is, holds) = inr (k, y, omega arith, is, holds)

  from : P x ⊎ Any P xs → Any P (x ∷ xs)
  from (inl holds) = (0, x, omega arith, refl, holds)
  from (inr (k, y, low, is, holds)) = (suc k, y, omega arith, is, holds)

module _ {X : Type 0} (kids : X → List X) where
  -- x is no level below itself
  pub level_here : (x : X) → HasLevel kids 0 x
  level_here x = ([], refl, λ e. absurd (cc))

  -- what is further below x is below a child
  pub level_below : (x : X) (n : ℕ) → HasLevel kids (suc n) x → Any (HasLevel kids n) (kids x)
  level_below x n ([], e, there) = absurd (omega (arith, e))
  level_below x n (i ∷ a, e, there) = child (slice_get (kids x) i) refl there where
    child : (o : Option X) → slice_get (kids x) i ≡ o → (option_and_then (λ c. at kids c a) o ≡ None → ⊥) → Any (HasLevel kids n) (kids x)
    child None is there = absurd (there refl)
    child (Some c) is there = (i, c, slice_get_within (kids x) i c is, get_or_from_slice_get (kids x) i c c is, (a, omega (arith, e), there))

  -- and what is below a child is further below x
  pub level_above : (x : X) (n : ℕ) → Any (HasLevel kids n) (kids x) → HasLevel kids (suc n) x
  level_above x n (i, c, low, is, (a, e, there)) =
      let some : slice_get (kids x) i ≡ Some c = slice_get_read (kids x) (length (kids x)) i c refl low (sym is) in
      (i ∷ a, ap suc e, λ none. there (sym (ap (option_and_then (λ c. at kids c a)) some) ∙ none))

  -- where a level is, all those above it are
  pub level_few : (n m : ℕ) (x : X) → n ≤ m → HasLevel kids m x → HasLevel kids n x
  level_few zero m x low has = level_here x
  level_few (suc n) zero x low has = absurd (omega arith)
  level_few (suc n) (suc m) x low has = let (i, c, within, is, there) = level_below x m has in level_above x n (i, c, within, is, level_few n m c (omega arith) there)

  -- what is below the end of a walk is further below its start
  pub leads_level : (n m : ℕ) (x y : X) → Leads kids n x y → HasLevel kids m y → HasLevel kids (n + m) x
  leads_level n m x y (a, count, to) (b, more, there) =
      (a ++ b, omega (arith, length-append a b, count, more), λ none. there (sym (at-append kids x y a b to) ∙ none))

  -- a walk can go on to a child of its end
  pub leads_on : (n i : ℕ) (x y z : X) → Leads kids n x y → slice_get (kids y) i ≡ Some z → Leads kids (suc n) x z
  leads_on n i x y z (a, count, to) is =
      (a ++ i ∷ [], omega (arith, length-append a (i ∷ []), count), at-append kids x y a (i ∷ []) to ∙ ap (option_and_then (λ c. at kids c [])) is)

  -- a walk that comes back to its start can be as long as one likes
  pub level_around : (k : ℕ) (x : X) → 1 ≤ k → Leads kids k x x → (n : ℕ) → HasLevel kids n x
  level_around k x some back zero = level_here x
  level_around k x some back (suc n) = level_few (suc n) (k + n) x (omega arith) (leads_level k n x x back (level_around k x some back n))

-- ## Places

-- a tree has a level if that is its own, or below one of the trees in it
pub tree_level : (level b : ℕ) (p : Place) (after : List Place) → b ≡ size_below p.size
    → HasLevel occurrence_kids level (first_tree (p ∷ after)) ↔ ((level ≡ 0) ⊎ Any (HasLevel occurrence_kids (level - 1)) (trees_in b after))
tree_level zero b p after e = (λ _. inl refl, λ _. level_here occurrence_kids (first_tree (p ∷ after)))
tree_level (suc n) b p after e =
    let t = first_tree (p ∷ after) in
    let below : occurrence_kids t ≡ trees_in b after = kids_at_place (p ∷ after) 0 ∙ ap (λ m. trees_in m after) (sym e) in
    let less : suc n - 1 ≡ n = omega arith in (
      λ has. inr (subst (λ m. Any (HasLevel occurrence_kids m) (trees_in b after)) (sym less) (subst (Any (HasLevel occurrence_kids n)) below (level_below occurrence_kids t n has))),
      λ either. elim either [
        | inl never ↦ absurd (omega (arith, never))
        | inr has ↦ level_above occurrence_kids t n (subst (Any (HasLevel occurrence_kids n)) (sym below) (subst (λ m. Any (HasLevel occurrence_kids m) (trees_in b after)) less has))
      ],
    )

-- some tree is the first one, or one of those after it
pub any_tree : (Is : OccurrenceTree → Type 0) (left b left' : ℕ) (p : Place) (rest after rest' : List Place) → 0 < left → rest ≡ p ∷ after → b ≡ size_below p.size → left' ≡ (left - 1) - b → rest' ≡ drop b after
    → Any Is (trees_in left rest) ↔ (Is (first_tree (p ∷ after)) ⊎ Any Is (trees_in left' rest'))
any_tree Is left b left' p rest after rest' some is below fewer behind =
    let s = size_below p.size in
    let one : left ≡ suc (left - 1) = omega arith in
    let trees : trees_in left rest ≡ first_tree (p ∷ after) ∷ trees_in left' rest' =
    ap (λ n. trees_in n rest) one ∙ (ap (trees_in (suc (left - 1))) is ∙ (trees_first (left - 1) p after
    ∙ (ap (λ n. first_tree (p ∷ after) ∷ trees_in ((left - 1) - n) (drop n after)) (sym below)
    ∙ ap (λ z. first_tree (p ∷ after) ∷ z) (ap (λ n. trees_in n (drop b after)) (sym fewer) ∙ ap (trees_in left') (sym behind))))) in
    subst (λ (ts : List OccurrenceTree). Any Is ts ↔ (Is (first_tree (p ∷ after)) ⊎ Any Is (trees_in left' rest'))) (sym trees) (any_first Is (first_tree (p ∷ after)) (trees_in left' rest'))

-- what is left of places behind some of them, as a range
pub rest_behind : (b k : ℕ) (ps : List Place) → k ≡ min b (length ps) → take (length ps - k) (drop k ps) ≡ drop b ps
rest_behind b k ps e =
    let all : take (length ps - k) (drop k ps) ≡ drop k ps = take_all (length ps - k) (drop k ps) (omega (arith, length-drop k ps)) in
    elim (cases_lt b (length ps)) [
      | inl x ↦ (let same : k ≡ b = omega arith in all ∙ ap (λ n. drop n ps) same)
      | inr x ↦ all ∙ (drop_all k ps (omega arith) ∙ sym (drop_all b ps (omega arith)))
    ]

-- some places are one tree
pub trees_one : (ps : List Place) (t : OccurrenceTree) → ps ≡ tree_places t → trees_in 1 ps ≡ first_tree ps ∷ []
trees_one [] t is = absurd (cc)
trees_one (p ∷ ps) t is =
    let s = size_below p.size in
    let none : 0 - s ≡ 0 = omega arith in
    trees_first 0 p ps ∙ ap (λ z. first_tree (p ∷ ps) ∷ z) (ap (λ n. trees_in n (drop s ps)) none ∙ trees_none (drop s ps))

-- so one of these trees has a level exactly if the graph has it, each node expanded once
pub once_level : (edges : List (ℕ × ℕ)) (root : ℕ) (ps : List Place) → ps ≡ tree_places (first_tree ps) → IsExpandedOnce (neighbors_of edges) root 5001 (first_tree ps) → HasOneTree (neighbors_of edges) root 5001
    → Any (HasLevel occurrence_kids 5001) (trees_in 1 ps) ↔ HasMoreLevels edges root false
once_level edges root ps places is (one, its, only) =
    let t = first_tree ps in
    let Is = HasLevel occurrence_kids 5001 in
    let trees = trees_one ps t places in (
      λ has. elim ((any_first Is t []).0 (subst (Any Is) trees has)) [
        | inl here ↦ (t, is, here)
        | inr (k, x, low, same, holds) ↦ absurd (omega (arith, low))
      ],
      λ has. let (other, too, level) = has in
          subst (Any Is) (sym trees) ((any_first Is t []).1 (inl (subst Is (only other too ∙ sym (only t is)) level))),
    )

-- ## Walks

-- the neighbour at a place of a list
pub neighbor_at : (items : List NodeIndex) (below : List ℕ) (i : ℕ) (d : NodeIndex) → map (λ (b : NodeIndex). b.0) items ≡ below → i < length items → slice_get below i ≡ Some (get_or items i d).0
neighbor_at items below i d same low =
    ap (λ (l : List ℕ). slice_get l i) (sym same) ∙ (slice_get-map (λ (b : NodeIndex). b.0) items i ∙ ap (option_map (λ (b : NodeIndex). b.0)) (slice_get-get_or items i d low))

-- what is known of a node is what was set, or what was known before
pub known_set : (old new : List Walks) (v : ℕ) (walks : Walks) → ((u : ℕ) → walks_from new u ≡ (if u == v then walks else walks_from old u))
    → (u : ℕ) → ((u ≡ v) × (walks_from new u ≡ walks)) ⊎ (walks_from new u ≡ walks_from old u)
known_set old new v walks is u = by (u == v) refl (is u) where
  by : (b : Bool) → (u == v) ≡ b → walks_from new u ≡ (if b then walks else walks_from old u) → ((u ≡ v) × (walks_from new u ≡ walks)) ⊎ (walks_from new u ≡ walks_from old u)
  by true e same = inl (eqb-true u v e, same)
  by false e same = inr same

module _ (below : ℕ → List ℕ) where
  -- what is below a neighbour is further below a node
  pub level_by : (n i v w : ℕ) → slice_get (below v) i ≡ Some w → HasLevel below n w → HasLevel below (suc n) v
  level_by n i v w is has = level_above below v n (i, w, slice_get_within (below v) i w is, get_or_from_slice_get (below v) i w w is, has)

  -- what was right stays so if what is set is right
  pub right_set : (old new : List Walks) (v : ℕ) (walks : Walks) → ((u : ℕ) → walks_from new u ≡ (if u == v then walks else walks_from old u))
      → ((n : ℕ) → walks ≡ Longest n → IsHeight below v n) → AreRight below old → AreRight below new
  right_set old new v walks is here right u n e = elim (known_set old new v walks is u) [
    | inl (same, set) ↦ subst (λ w. IsHeight below w n) (sym same) (here n (sym set ∙ e))
    | inr kept ↦ right u n (sym kept ∙ e)
  ]

  -- so many levels are below a node if none below its neighbours is further down
  pub height_by : (n v : ℕ) → HasLevel below n v → ((i w : ℕ) → i < length (below v) → slice_get (below v) i ≡ Some w → HasLevel below n w → ⊥) → IsHeight below v n
  height_by n v some none = record {
    some = some;
    no_more = λ has. let (i, w, low, is, there) = level_below below v n has in none i w low (slice_get_read (below v) (length (below v)) i w refl low (sym is)) there;
  }

  -- whether a walk was too long says whether there is one
  pub walk_told : (v most : ℕ) (old new : List Walks) (o : Option ℕ) (b : Bool) → is_some o ≡ not b → IsWalked below v most old new o → IsTrue b ↔ HasLevel below (suc most) v
  walk_told v most old new None true e walked = (λ _. walked, λ _. refl)
  walk_told v most old new (Some n) false e walked = (λ never. absurd (cc), λ has. absurd (walked.0.no_more (level_few below (suc n) (suc most) v (omega (arith, walked.1)) has)))
  walk_told v most old new _ _ e walked = absurd (cc)

-- What is below an address is drawn as it is alone.
use Rattle.std.specs.Prelude.{slice_get, option_and_then, ◌&&◌, ◌-◌}
use Rattle.std.proofs.Common.{◌≡◌, ℕ, ◌≤◌, ◌⊎◌, inl, inr, Bool, true, false, cond, List, [], ◌∷◌, ◌++◌, map, filter, Option, Some, None, length, sym, ◌∙◌, ap, subst, refl, arith, eq-eqb, eqb-true, length-append}
use Rattle.std.proofs.lemmas.Bool.{and_parts}
use Rattle.std.proofs.lemmas.List.Kept.{AllPairs-filter}
use Rattle.ptree.specs.Address.{Address, at, Before, IsAddressList}
use Rattle.ptree.specs.Drawing.{Look, passing_text, entry_text}
use Rattle.ptree.specs.Laws.{is_proper_prefix, entry_after, HasSubtrees}
use Rattle.ptree.specs.Shape.{Shape, kids}
use Rattle.ptree.proofs.Drawing.Addresses.{In, Sorted, sorted_from_pairs, same_sorted, in_contains, contains_in}
use Rattle.ptree.proofs.Drawing.Laws.{entry_below}

-- ## Addresses after a common start

-- an address that properly begins another is followed there by a step
begun : (a b : Address) → is_proper_prefix a b ≡ true → (j : ℕ) × (r : Address) × (b ≡ a ++ j ∷ r)
begun a [] h = absurd (cc)
begun [] (j ∷ b) h = (j, b, refl)
begun (i ∷ a) (j ∷ b) h =
    let s = and_parts _ _ h in
    let q = begun a b s.1 in
    (q.0, q.1, ap (λ k. k ∷ b) (sym (eqb-true i j s.0)) ∙ ap (λ z. i ∷ z) q.2)

-- an address properly begins each one with a step more
is_proper_prefix-append : (a : Address) (j : ℕ) (r : Address) → is_proper_prefix a (a ++ j ∷ r) ≡ true
is_proper_prefix-append [] j r = refl
is_proper_prefix-append (i ∷ a) j r = ap (λ p. p && is_proper_prefix a (a ++ j ∷ r)) (eq-eqb i i refl) ∙ is_proper_prefix-append a j r

-- an order of addresses holds after a common start
before_behind : (a b c : Address) → Before b c → Before (a ++ b) (a ++ c)
before_behind [] b c h = h
before_behind (i ∷ a) b c h = inr (refl, before_behind a b c h)

-- the steps after an address are those from the item there
pub at-append : {X : Type 0} (kids : X → List X) (x y : X) (a b : Address) → at kids x a ≡ Some y → at kids x (a ++ b) ≡ at kids y b
at-append kids x y [] b h = let same : x ≡ y = cc in ap (λ z. at kids z b) same
at-append kids x y (i ∷ a) b h = step kids y (slice_get (kids x) i) a b (λ c. at-append kids c y a b) h
  where
    step : {X : Type 0} (kids : X → List X) (y : X) (o : Option X) (a b : Address) → ((c : X) → at kids c a ≡ Some y → at kids c (a ++ b) ≡ at kids y b)
        → option_and_then (λ c. at kids c a) o ≡ Some y → option_and_then (λ c. at kids c (a ++ b)) o ≡ at kids y b
    step kids y None a b f h = absurd (cc)
    step kids y (Some c) a b f h = f c h

-- ## Lists

-- a member of a list that keeps its first element or not is that element, and then it is kept, or
-- one of the others
in_cond : (k : Bool) (a x : Address) (xs : List Address) → In a (cond k (x ∷ xs) xs) → ((x ≡ a) × (k ≡ true)) ⊎ In a xs
in_cond true a x xs (inl e) = inl (e, refl)
in_cond true a x xs (inr h) = inr h
in_cond false a x xs h = inr h

-- a member stays in a list that keeps it
cond_in : (k : Bool) (a x : Address) (xs : List Address) → (x ≡ a → k ≡ true) → (x ≡ a) ⊎ In a xs → In a (cond k (x ∷ xs) xs)
cond_in true a x xs f h = h
cond_in false a x xs f (inl e) = let no_way = f e in absurd (cc)
cond_in false a x xs f (inr h) = h

-- a member of the filtered list is a member that passes the test
in_filter : (p : Address → Bool) (a : Address) (xs : List Address) → In a (filter p xs) → In a xs × (p a ≡ true)
in_filter p a [] h = absurd h
in_filter p a (x ∷ xs) h = elim (in_cond (p x) a x (filter p xs) h) [
  | inl e ↦ (inl e.0, sym (ap p e.0) ∙ e.1)
  | inr k ↦ (let m = in_filter p a xs k in (inr m.0, m.1))
]

-- a member that passes a test stays in the filtered list
filter_in : (p : Address → Bool) (a : Address) (xs : List Address) → In a xs → p a ≡ true → In a (filter p xs)
filter_in p a [] h k = absurd h
filter_in p a (x ∷ xs) (inl e) k = cond_in (p x) a x (filter p xs) (λ q. ap p q ∙ k) (inl e)
filter_in p a (x ∷ xs) (inr h) k = cond_in (p x) a x (filter p xs) (λ q. ap p q ∙ k) (inr (filter_in p a xs h k))

-- an address of a list with a common start is that start and an address of the list
in_behind : (a b : Address) (xs : List Address) → In b (map (λ c. a ++ c) xs) → (c : Address) × (a ++ c ≡ b) × In c xs
in_behind a b [] h = absurd h
in_behind a b (x ∷ xs) (inl e) = (x, e, inl refl)
in_behind a b (x ∷ xs) (inr h) = let m = in_behind a b xs h in (m.0, m.1, inr m.2)

-- a member of a list is one after a common start
behind_in : (a c : Address) (xs : List Address) → In c xs → In (a ++ c) (map (λ b. a ++ b) xs)
behind_in a c [] h = absurd h
behind_in a c (x ∷ xs) (inl e) = inl (ap (λ b. a ++ b) e)
behind_in a c (x ∷ xs) (inr h) = inr (behind_in a c xs h)

-- ascending addresses stay so after a common start
sorted_behind : (a : Address) (xs : List Address) → Sorted xs → Sorted (map (λ b. a ++ b) xs)
sorted_behind a [] s = tt
sorted_behind a (x ∷ xs) s = (
  λ b h. (let m = in_behind a b xs h in subst (λ (z : Address). Before (a ++ x) z) m.1 (before_behind a x m.0 (s.0 m.0 m.2))),
  sorted_behind a xs s.1,
)

-- a filtered address list is sorted
sorted_filter : {X : Type 0} (kids : X → List X) (x : X) (d : ℕ) (p : Address → Bool) (xs : List Address) → IsAddressList kids x d xs → Sorted (filter p xs)
sorted_filter kids x d p xs s = sorted_from_pairs (filter p xs) (AllPairs-filter Before p xs s.ascending)

-- ## Addresses of the whole and of the part

-- the addresses below an address are those of the item there, after that address
addresses_below : {X : Type 0} (kids : X → List X) (x y : X) (a : Address) (d : ℕ) (whole part : List Address) → at kids x a ≡ Some y → length a ≤ d
    → IsAddressList kids x d whole → IsAddressList kids y (d - length a) part
    → filter (is_proper_prefix a) whole ≡ map (λ b. a ++ b) (filter (is_proper_prefix []) part)
addresses_below kids x y a d whole part h k w p =
    same_sorted (filter (is_proper_prefix a) whole) (map (λ b. a ++ b) below)
    (sorted_filter kids x d (is_proper_prefix a) whole w)
    (sorted_behind a below (sorted_filter kids y (d - length a) (is_proper_prefix []) part p))
    (λ b m.
    let n = in_filter (is_proper_prefix a) b whole m in
    let q = begun a b n.1 in
    let c = q.0 ∷ q.1 in
    let f = (w.members b).0 (contains_in whole b n.0) in
    let short : length c ≤ d - length a = omega (arith, f.1, ap length q.2, length-append a c) in
    let there = (p.members c).1 (λ e. f.0 (ap (at kids x) q.2 ∙ at-append kids x y a c h ∙ e), short) in
    subst (λ (z : Address). In z (map (λ b. a ++ b) below)) (sym q.2) (behind_in a c below (filter_in (is_proper_prefix []) c part (in_contains part c there) refl)))
    (λ b m.
    let n = in_behind a b below m in
    let c = n.0 in
    let s = in_filter (is_proper_prefix []) c part n.2 in
    let q = begun [] c s.1 in
    let f = (p.members c).0 (contains_in part c s.0) in
    let short : length (a ++ c) ≤ d = omega (arith, f.1, length-append a c) in
    let there = (w.members (a ++ c)).1 (λ e. f.0 (sym (at-append kids x y a c h) ∙ e), short) in
    let test : is_proper_prefix a (a ++ c) ≡ true = ap (λ z. is_proper_prefix a (a ++ z)) q.2 ∙ is_proper_prefix-append a q.0 q.1 in
    subst (λ (z : Address). In z (filter (is_proper_prefix a) whole)) n.1 (filter_in (is_proper_prefix a) (a ++ c) whole (in_contains whole (a ++ c) there) test))
  where
    below : List Address
    below = filter (is_proper_prefix []) part

-- ## Entries

-- an entry of the whole is the entry of the part after the passing text
entries_alone : (look : Look) (x y : Shape) (a : Address) (part : List Address) → at kids x a ≡ Some y
    → map (entry_text look x) (map (λ b. a ++ b) (filter (is_proper_prefix []) part)) ≡ map (entry_after look (passing_text look x a) y) (filter (is_proper_prefix []) part)
entries_alone look x y a [] h = refl
entries_alone look x y a ([] ∷ part) h = entries_alone look x y a part h
entries_alone look x y a ((j ∷ r) ∷ part) h =
    ap (λ t. t ∷ map (entry_text look x) (map (λ b. a ++ b) (filter (is_proper_prefix []) part))) (entry_below look [] x y a j r h)
    ∙ ap (λ t. entry_after look (passing_text look x a) y (j ∷ r) ∷ t) (entries_alone look x y a part h)

-- the entries below each address are those of the item there, after its passing text
pub subtrees : (look : Look) (x : Shape) (depth : ℕ) → HasSubtrees look x depth
subtrees look x depth = λ a y whole part h k w p.
    ap (map (entry_text look x)) (addresses_below kids x y a depth whole part h k w p) ∙ entries_alone look x y a part h

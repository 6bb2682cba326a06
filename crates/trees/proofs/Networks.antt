-- Networks that get nodes and edges.
use Rattle.trees.proofs.Common.{◌≡◌, ◌∙◌, ℕ, ◌&&◌, ◌||◌, not, Bool, true, false, cond, eqb, ◌+◌, ◌<◌, List, [], ◌∷◌, ◌++◌, length, get_or, take, map, refl, sym, ap, subst, Bor, is_eq, filter, All, eqb-true, true≢false, arith, All-nil, All-cons, All-append, filter-append, list_any, numbers_of}
use Rattle.std.proofs.lemmas.List.{append-nil, map-append, take_more}
use Rattle.std.proofs.lemmas.Map.Views.{any-filter_same}
use Rattle.std.proofs.lemmas.Bool.Decides.{nat_tests}
use Rattle.trees.specs.declared.deps.Need.{Need}
use Rattle.trees.specs.declared.deps.network.Network.{Network}
use Rattle.trees.specs.Depending.{number, is_need, directed, ends, edges_of_needs, need_of, needs_between, same_edge, firsts, IsWithin}
use Rattle.trees.specs.DependingParts.{texts_of, needs_of, edge_cmp, added, AddsEdge, IsIndexed, IsUnlinked, HasNeeds}

-- ## Elements once

module _ {X : Type 0} (same : X → X → Bool) (exact : (x y : X) → same x y ≡ true → x ≡ y) where
  -- what another element leaves of a list
  abbrev others : X → List X → List X
  others y xs = filter (λ z. not (same y z)) xs

  -- a list of others has an element exactly if it had, unless it is that one
  any_other : (x y : X) (xs : List X) → same y x ≡ false → list_any (same x) (others y xs) ≡ list_any (same x) xs
  any_other x y xs differ =
      any-filter_same (same x) (λ z. not (same y z)) true (λ z is. ap not (ap (same y) (sym (exact x z is)) ∙ differ)) xs

  -- one element more, unless it is there
  added_by : (x : X) (xs : List X) (b : Bool) → list_any (same x) xs ≡ b → added same xs x ≡ cond b xs (xs ++ x ∷ [])
  added_by x xs b e = ap (λ (c : Bool). cond c xs (xs ++ x ∷ [])) e

  others_added : (x y : X) (xs : List X) (a b : Bool) → list_any (same x) xs ≡ a → same y x ≡ b → y ∷ others y (added same xs x) ≡ cond b (y ∷ others y xs) (cond a (y ∷ others y xs) ((y ∷ others y xs) ++ x ∷ []))
  others_added x y xs true true e d = ap (λ zs. y ∷ others y zs) (added_by x xs true e)
  others_added x y xs true false e d = ap (λ zs. y ∷ others y zs) (added_by x xs true e)
  others_added x y xs false true e d =
      ap (λ zs. y ∷ others y zs) (added_by x xs false e)
      ∙ (ap (λ zs. y ∷ zs) (filter-append (λ z. not (same y z)) xs (x ∷ []))
      ∙ (ap (λ (b : Bool). y ∷ (others y xs ++ cond (not b) (x ∷ []) [])) d ∙ ap (λ zs. y ∷ zs) (append-nil (others y xs))))
  others_added x y xs false false e d =
      ap (λ zs. y ∷ others y zs) (added_by x xs false e)
      ∙ (ap (λ zs. y ∷ zs) (filter-append (λ z. not (same y z)) xs (x ∷ [])) ∙ ap (λ (b : Bool). y ∷ (others y xs ++ cond (not b) (x ∷ []) [])) d)

  module _ (flips : (x y : X) → same x y ≡ same y x) where
    head_added : (x y : X) (xs : List X) (a b : Bool) → list_any (same x) xs ≡ a → same y x ≡ b
        → cond b (y ∷ others y xs) (cond a (y ∷ others y xs) ((y ∷ others y xs) ++ x ∷ [])) ≡ added same (y ∷ others y xs) x
    head_added x y xs a true e d = sym (added_by x (y ∷ others y xs) true (ap (λ (b : Bool). b || list_any (same x) (others y xs)) (flips x y ∙ d)))
    head_added x y xs true false e d = sym (added_by x (y ∷ others y xs) true (ap (λ (b : Bool). b || list_any (same x) (others y xs)) (flips x y ∙ d) ∙ (any_other x y xs d ∙ e)))
    head_added x y xs false false e d = sym (added_by x (y ∷ others y xs) false (ap (λ (b : Bool). b || list_any (same x) (others y xs)) (flips x y ∙ d) ∙ (any_other x y xs d ∙ e)))

    -- the elements of a longer list
    pub firsts_push : (xs : List X) (x : X) → firsts same (xs ++ x ∷ []) ≡ added same (firsts same xs) x
    firsts_push [] x = refl
    firsts_push (y ∷ xs) x =
        ap (λ zs. y ∷ others y zs) (firsts_push xs x)
        ∙ (others_added x y (firsts same xs) (list_any (same x) (firsts same xs)) (same y x) refl refl ∙ head_added x y (firsts same xs) (list_any (same x) (firsts same xs)) (same y x) refl refl)

-- ## Edges

pub eqb_flips : (a b : ℕ) → eqb a b ≡ eqb b a
eqb_flips a b = grind (arith, nat_tests)

pub edge_flips : (d e : ℕ × ℕ) → same_edge d e ≡ same_edge e d
edge_flips d e = ap (λ (x : Bool). x && eqb d.1 e.1) (eqb_flips d.0 e.0) ∙ ap (λ (y : Bool). eqb e.0 d.0 && y) (eqb_flips d.1 e.1)

pub edge_exact : (d e : ℕ × ℕ) → same_edge d e ≡ true → d ≡ e
edge_exact d e same = pair (eqb d.0 e.0) (eqb d.1 e.1) refl refl same where
  pair : (a b : Bool) → eqb d.0 e.0 ≡ a → eqb d.1 e.1 ≡ b → (a && b) ≡ true → d ≡ e
  pair true true x y s = let l = eqb-true d.0 e.0 x in let r = eqb-true d.1 e.1 y in ap (λ (n : ℕ). (n, d.1)) l ∙ ap (λ (n : ℕ). (e.0, n)) r
  pair true false x y s = absurd (true≢false (sym s))
  pair false b x y s = absurd (true≢false (sym s))

-- ## Needs

-- those of one pair more
module _ (names : List (List ℕ)) (pairs : List (List ℕ × List ℕ)) (p : List ℕ × List ℕ) where
  needs_pushed : (b : Bool) → is_need p ≡ b → needs_between names (pairs ++ p ∷ []) ≡ needs_between names pairs ++ cond b (need_of names p ∷ []) []
  needs_pushed b e =
      ap (map (need_of names)) (filter-append is_need pairs (p ∷ []))
      ∙ (map-append (need_of names) (filter is_need pairs) (filter is_need (p ∷ [])) ∙ ap (λ es. map (need_of names) (filter is_need pairs) ++ es) (last b e)) where
        last : (b : Bool) → is_need p ≡ b → map (need_of names) (filter is_need (p ∷ [])) ≡ cond b (need_of names p ∷ []) []
        last true e = ap (λ (c : Bool). map (need_of names) (cond c (p ∷ []) [])) e
        last false e = ap (λ (c : Bool). map (need_of names) (cond c (p ∷ []) [])) e

  pub needs_same : is_need p ≡ false → needs_between names (pairs ++ p ∷ []) ≡ needs_between names pairs
  needs_same e = needs_pushed false e ∙ append-nil (needs_between names pairs)

  pub needs_more : is_need p ≡ true → needs_between names (pairs ++ p ∷ []) ≡ needs_between names pairs ++ need_of names p ∷ []
  needs_more e = needs_pushed true e

-- those of the pair at a place
module _ (names : List (List ℕ)) (ps : List (Bor (List ℕ) × Bor (List ℕ))) (i : ℕ) (d : Bor (List ℕ) × Bor (List ℕ)) (low : i < length ps) (needs : List Need) (so : map ends needs ≡ needs_between names (map texts_of (take i ps))) where
  pair_taken : map texts_of (take (i + 1) ps) ≡ map texts_of (take i ps) ++ texts_of (get_or ps i d) ∷ []
  pair_taken = ap (map texts_of) (take_more ps i d low) ∙ map-append texts_of (take i ps) (get_or ps i d ∷ [])

  -- if its words are the same
  pub turn_same : is_need (texts_of (get_or ps i d)) ≡ false → map ends needs ≡ needs_between names (map texts_of (take (i + 1) ps))
  turn_same same = so ∙ sym (ap (needs_between names) pair_taken ∙ needs_same names (map texts_of (take i ps)) (texts_of (get_or ps i d)) same)

  -- and if they differ
  pub turn_more : (n : Need) (all : List Need) → is_need (texts_of (get_or ps i d)) ≡ true → all ≡ needs ++ n ∷ [] → n.needing ≡ number names (get_or ps i d).0.now → n.needed ≡ number names (get_or ps i d).1.now
      → map ends all ≡ needs_between names (map texts_of (take (i + 1) ps))
  turn_more n all differ pushed first second =
      let p = texts_of (get_or ps i d) in
      let both : ends n ≡ need_of names p = ap (λ (a : ℕ). (a, n.needed)) first ∙ ap (λ (b : ℕ). (number names p.0, b)) second in
      ap (map ends) pushed
      ∙ (map-append ends needs (n ∷ [])
      ∙ (ap (λ es. es ++ ends n ∷ []) so
      ∙ (ap (λ (e : ℕ × ℕ). needs_between names (map texts_of (take i ps)) ++ e ∷ []) both
      ∙ sym (ap (needs_between names) pair_taken ∙ needs_more names (map texts_of (take i ps)) p differ))))

-- ## Networks

-- a network without edges is indexed
indexed_none : (n : Network) → n.edges.items ≡ [] → n.sorted.keys ≡ [] → IsIndexed n
indexed_none n edges keys e =
    ap (list_any (λ (k : ℕ × ℕ). is_eq (edge_cmp e k))) keys ∙ sym (ap (λ es. list_any (same_edge e) (map numbers_of es)) edges)

-- it has no needs
pub no_needs : (n : Network) → IsUnlinked n → HasNeeds n [] n
no_needs n none = record { nodes = record { labels = refl; paths = refl; is_inverse = refl }; edges = ap (map numbers_of) none.edges; indexed = indexed_none n none.edges none.sorted }

-- and it gets one more
pub need_more : (needs : List Need) (i : ℕ) (d : Need) (old n m : Network) → i < length needs → HasNeeds old (map ends (take i needs)) n → (IsIndexed n → AddsEdge n m (directed n.is_inverse (ends (get_or needs i d)))) → HasNeeds old (map ends (take (i + 1) needs)) m
need_more needs i d old n m low has adds =
    let new = adds has.indexed in
    let e = ends (get_or needs i d) in
    let es = map ends (take i needs) in
    let taken : map ends (take (i + 1) needs) ≡ es ++ e ∷ [] = ap (map ends) (take_more needs i d low) ∙ map-append ends (take i needs) (get_or needs i d ∷ []) in
    let inverse = old.is_inverse in
    record {
      nodes = record { labels = new.nodes.labels ∙ has.nodes.labels; paths = new.nodes.paths ∙ has.nodes.paths; is_inverse = new.nodes.is_inverse ∙ has.nodes.is_inverse };
      edges = new.edges
          ∙ (ap (λ (b : Bool). added same_edge (needs_of n) (directed b e)) has.nodes.is_inverse
          ∙ (ap (λ xs. added same_edge xs (directed inverse e)) has.edges
          ∙ sym (ap (edges_of_needs inverse) taken
          ∙ (ap (firsts same_edge) (map-append (directed inverse) es (e ∷ [])) ∙ firsts_push same_edge edge_exact edge_flips (map (directed inverse) es) (directed inverse e)))));
      indexed = new.indexed;
    }

-- needs that are within a count, and one more
pub within_more : (count : ℕ) (needs : List Need) (i : ℕ) (d : Need) → i < length needs → All (IsWithin count) (map ends (take i needs)) → IsWithin count (ends (get_or needs i d)) → All (IsWithin count) (map ends (take (i + 1) needs))
within_more count needs i d low so is =
    let e = ends (get_or needs i d) in
    let taken : map ends (take (i + 1) needs) ≡ map ends (take i needs) ++ e ∷ [] = ap (map ends) (take_more needs i d low) ∙ map-append ends (take i needs) (get_or needs i d ∷ []) in
    subst (All (IsWithin count)) (sym taken) (All-append (IsWithin count) (map ends (take i needs)) (e ∷ []) so (All-cons (IsWithin count) e [] is (All-nil (IsWithin count))))

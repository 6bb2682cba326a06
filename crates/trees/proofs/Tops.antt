-- Nodes that lead to all others.
use Rattle.trees.proofs.Common.{◌≡◌, ◌∙◌, ℕ, ◌+◌, ◌-◌, ◌<◌, ◌≤◌, ◌&&◌, Bool, true, false, eqb, eq-eqb, List, [], ◌∷◌, ◌++◌, length, get_or, reverse, set, take, inl, inr, refl, sym, ap, subst, length-set, nat_cmp, All, AllPairs, Contains, arith, All-contains, All-contains_itself, All-push, All-weaker, Contains-append_left, Contains-push, list_any_at, All-permutation, IsPermutation-sym, IsPermutation-reverse}
use Rattle.std.proofs.lemmas.List.{get_or_append_left, get_or_default, get_or_push, get_or-reverse, length_push, length-reverse, take_all, take_more}
use Rattle.std.proofs.lemmas.List.Quantifiers.{all_pairs_push}
use Rattle.std.proofs.lemmas.Map.Lookups.{CmpEqualImpliesEq, exact_pairs, exact_unsigned}
use Rattle.std.proofs.lemmas.Map.Views.{Contains-from_any, btree_set_contains_iff}
use Rattle.trees.specs.declared.deps.network.Network.{Network}
use Rattle.trees.specs.Depending.{same_edge, IsClosed, HasEach, IsUnreached, IsWithin, AreTops}
use Rattle.trees.specs.DependingParts.{labels_of, needs_of, edge_cmp, is_marked, HasMarked, IsIndexed, IsWhole, Reaches, AreFirsts}
use Rattle.trees.proofs.Elements.{pairs_front}
use Rattle.trees.proofs.Marks.{front_of, mark_kept, mark_there, mark_only, mark_low, mark_same, unmarked}
use Rattle.trees.proofs.Networks.{edge_exact}
use Rattle.trees.proofs.Reached.{edges_total}

-- ## Pairs of elements

module _ {X : Type 0} (R : X → X → Type 0) where
  -- those with the last element
  pairs_last : (xs : List X) (y : X) → AllPairs R (xs ++ y ∷ []) → All (λ x. R x y) xs
  pairs_last xs y pairs k d low =
      let first = get_or_append_left xs (y ∷ []) d k low in
      let second = get_or_push xs y d (length xs) refl in
      subst (λ (x : X). R x y) first (subst (λ (z : X). R (get_or (xs ++ y ∷ []) k d) z) second (pairs k (length xs) d low (omega (arith, length_push xs y))))

  -- those of a reversed list
  pairs_reversed : (xs : List X) → AllPairs R xs → AllPairs (λ x y. R y x) (reverse xs)
  pairs_reversed xs pairs i j d less low =
      let long = length-reverse xs in
      let first = get_or-reverse xs i d (omega arith) in
      let second = get_or-reverse xs j d (omega arith) in
      subst (λ (x : X). R (get_or (reverse xs) j d) x) (sym first) (subst (λ (y : X). R y (get_or xs (length xs - 1 - i) d)) (sym second) (pairs (length xs - 1 - j) (length xs - 1 - i) d (omega arith) (omega arith)))

-- ## Nodes that none before them reaches

-- what is marked once these are the nodes so far, and the first ones of them
pub record Firsts (edges : List (ℕ × ℕ)) (nodes firsts : List ℕ) (marks : List Bool) : Type 0 where
  pub closed : IsClosed edges (is_marked marks)
  pub marked : HasEach (is_marked marks) nodes
  pub found : (has : ℕ → Bool) → IsClosed edges has → HasEach has firsts → HasMarked has marks
  pub apart : AllPairs (IsUnreached edges) firsts
  pub turned : AllPairs (λ t u. IsUnreached edges u t) nodes → AllPairs (λ t u. IsUnreached edges u t) firsts

module _ (edges : List (ℕ × ℕ)) (nodes firsts : List ℕ) (marks : List Bool) (node : ℕ) (among : All (Contains nodes) firsts) (so : Firsts edges nodes firsts marks) where
  -- one node more that is not reached from those
  pub firsts_new : (more : List Bool) → All (λ e. e.1 < length marks) edges → get_or marks node true ≡ false → Reaches edges node (set marks node true) more → Firsts edges (nodes ++ node ∷ []) (firsts ++ node ∷ []) more
  firsts_new more within new reached = record {
    closed = reached.closed (subst (λ (n : ℕ). All (λ e. e.1 < n) edges) (sym (length-set marks node true)) within) (mark_there marks node (mark_low marks node new))
        (λ e c is. elim (mark_only marks node e.0 is) [ inl was ↦ inr (mark_kept marks node e.1 (so.closed e c was)) | inr same ↦ inl same ]);
    marked = All-push (λ n. is_marked more n ≡ true) nodes node
        (All-weaker (λ n. is_marked marks n ≡ true) (λ n. is_marked more n ≡ true) (λ n is. reached.kept n (mark_kept marks node n is)) nodes so.marked)
        (reached.kept node (mark_there marks node (mark_low marks node new)));
    found = λ has closed all.
        let front = front_of (λ n. has n ≡ true) firsts node all in
        reached.found has closed front.1
        (λ n is. elim (mark_only marks node n is) [
          | inl was ↦ so.found has closed front.0 n was
          | inr same ↦ subst (λ (k : ℕ). has k ≡ true) (sym same) front.1
        ]);
    apart = all_pairs_push (IsUnreached edges) firsts node so.apart
        (λ k d low. (is_marked marks, so.closed, All-contains (λ n. is_marked marks n ≡ true) nodes (get_or firsts k d) so.marked (among k d low), unmarked marks node new));
    turned = λ pairs.
        all_pairs_push (λ t u. IsUnreached edges u t) firsts node (so.turned (pairs_front (λ t u. IsUnreached edges u t) nodes (node ∷ []) pairs))
        (λ k d low. All-contains (λ t. IsUnreached edges node t) nodes (get_or firsts k d) (pairs_last (λ t u. IsUnreached edges u t) nodes node pairs) (among k d low));
  }

  -- one more that is
  pub firsts_same : node < length marks → get_or marks node true ≡ true → Firsts edges (nodes ++ node ∷ []) firsts marks
  firsts_same low is = record {
    closed = so.closed;
    marked = All-push (λ n. is_marked marks n ≡ true) nodes node so.marked (get_or_default marks node false true low ∙ is);
    found = so.found;
    apart = so.apart;
    turned = λ pairs. so.turned (pairs_front (λ t u. IsUnreached edges u t) nodes (node ∷ []) pairs);
  }

-- some nodes of which these are the first, with edges between as many nodes
pub record FirstsOf (edges : List (ℕ × ℕ)) (count : ℕ) (nodes : List ℕ) (i : ℕ) (firsts : List ℕ) (marks : List Bool) : Type 0 where
  pub size : length marks ≡ count
  pub among : All (Contains (take i nodes)) firsts
  pub are : All (λ e. e.1 < count) edges → All (λ n. n < count) nodes → Firsts edges (take i nodes) firsts marks

module _ (edges : List (ℕ × ℕ)) (count : ℕ) (nodes : List ℕ) (i : ℕ) (firsts : List ℕ) (marks : List Bool) (so : FirstsOf edges count nodes i firsts marks) where
  module _ (low : i < length nodes) where
    -- one node more that is not reached
    pub firsts_of_new : (more : List Bool) → get_or marks (get_or nodes i 0) true ≡ false → Reaches edges (get_or nodes i 0) (set marks (get_or nodes i 0) true) more → FirstsOf edges count nodes (i + 1) (firsts ++ get_or nodes i 0 ∷ []) more
    firsts_of_new more new reached =
        let node = get_or nodes i 0 in
        let taken = take_more nodes i 0 low in
        let before = take i nodes in
        record {
          size = reached.size ∙ (length-set marks node true ∙ so.size);
          among = subst (λ ns. All (Contains ns) (firsts ++ node ∷ [])) (sym taken)
              (All-push (Contains (before ++ node ∷ [])) firsts node (All-weaker (Contains before) (Contains (before ++ node ∷ [])) (Contains-append_left before (node ∷ [])) firsts so.among) (Contains-push before node));
          are = λ within each.
              subst (λ ns. Firsts edges ns (firsts ++ node ∷ []) more) (sym taken)
              (firsts_new edges before firsts marks node so.among (so.are within each) more (subst (λ n. All (λ (e : ℕ × ℕ). e.1 < n) edges) (sym so.size) within) new reached);
        }

    -- one more that is
    pub firsts_of_same : get_or marks (get_or nodes i 0) true ≡ true → FirstsOf edges count nodes (i + 1) firsts (set marks (get_or nodes i 0) true)
    firsts_of_same is =
        let node = get_or nodes i 0 in
        let taken = take_more nodes i 0 low in
        let before = take i nodes in
        subst (FirstsOf edges count nodes (i + 1) firsts) (sym (mark_same marks node is)) (record {
          size = so.size;
          among = subst (λ ns. All (Contains ns) firsts) (sym taken) (All-weaker (Contains before) (Contains (before ++ node ∷ [])) (Contains-append_left before (node ∷ [])) firsts so.among);
          are = λ within each.
              subst (λ ns. Firsts edges ns firsts marks) (sym taken)
              (firsts_same edges before firsts marks node so.among (so.are within each) (subst (λ (n : ℕ). node < n) (sym so.size) (each i 0 low)) is);
        })

  -- all nodes
  module _ (end : length nodes ≤ i) where
    pub among_all : All (Contains nodes) firsts
    among_all = subst (λ ns. All (Contains ns) firsts) (take_all i nodes end) so.among

    pub firsts_all : All (λ e. e.1 < count) edges → All (λ n. n < count) nodes → AreFirsts edges nodes firsts
    firsts_all within low =
        let all = subst (λ ns. Firsts edges ns firsts marks) (take_all i nodes end) (so.are within low) in
        record {
          all = λ has closed each. All-weaker (λ n. is_marked marks n ≡ true) (λ n. has n ≡ true) (all.found has closed each) nodes all.marked;
          apart = all.apart;
          turned = all.turned;
        }

-- what is among nodes is among the first ones
pub firsts_below : (n : ℕ) (nodes firsts : List ℕ) → All (λ t. t < n) nodes → All (Contains nodes) firsts → All (λ t. t < n) firsts
firsts_below n nodes firsts low among = All-weaker (Contains nodes) (λ t. t < n) (λ t c. All-contains (λ u. u < n) nodes t low c) firsts among

-- ## Edges of a network

edges_exact : CmpEqualImpliesEq edge_cmp
edges_exact = exact_pairs nat_cmp nat_cmp exact_unsigned exact_unsigned

module _ (n : Network) (indexed : IsIndexed n) where
  -- an edge in either order is one in the other
  pub need_of_key : (e : ℕ × ℕ) → Contains n.sorted.keys e → Contains (needs_of n) e
  need_of_key e c = Contains-from_any edge_exact e (needs_of n) (sym (indexed e) ∙ (btree_set_contains_iff edges_total edges_exact n.sorted e).1 c)

  key_of_need : (e : ℕ × ℕ) → Contains (needs_of n) e → Contains n.sorted.keys e
  key_of_need e c =
      (btree_set_contains_iff edges_total edges_exact n.sorted e).0
      (indexed e ∙ list_any_at (same_edge e) (needs_of n) c.0 e c.1 (ap (same_edge e) c.2 ∙ same)) where
        same : same_edge e e ≡ true
        same = ap (λ (b : Bool). b && eqb e.1 e.1) (eq-eqb e.0 e.0 refl) ∙ eq-eqb e.1 e.1 refl

  unreached_by_needs : (t u : ℕ) → IsUnreached n.sorted.keys t u → IsUnreached (needs_of n) t u
  unreached_by_needs t u un = (un.0, (λ e c. un.1 e (key_of_need e c)), un.2, un.3)

-- the keys are edges between the nodes
pub keys_within : (n : Network) → IsWhole n → All (λ e. e.1 < length (labels_of n)) n.sorted.keys
keys_within n whole =
    All-weaker (Contains n.sorted.keys) (λ (e : ℕ × ℕ). e.1 < length (labels_of n))
    (λ e c. (All-contains (IsWithin (length (labels_of n))) (needs_of n) e whole.within (need_of_key n whole.indexed e c)).1) n.sorted.keys (All-contains_itself n.sorted.keys)

-- ## Tops

module _ (n : Network) (nodes firsts turned tops : List ℕ) (all : (i : ℕ) → i < length (labels_of n) → Contains nodes i) (first : AreFirsts n.sorted.keys nodes firsts) (back : turned ≡ reverse firsts) (second : AreFirsts n.sorted.keys turned tops) where
  -- the first ones of the first ones, backwards
  pub tops_are : (last : List ℕ) → last ≡ reverse tops → IsIndexed n → AreTops (needs_of n) (length (labels_of n)) last
  tops_are last end indexed = record {
    all = λ has closed each i low.
        let closed' : IsClosed n.sorted.keys has = λ e c. closed e (need_of_key n indexed e c) in
        let last' = All-permutation (λ n. has n ≡ true) (reverse tops) tops (IsPermutation-sym tops (reverse tops) (IsPermutation-reverse tops)) (subst (HasEach has) end each) in
        let turned' = subst (HasEach has) back (second.all has closed' last') in
        let firsts' = All-permutation (λ n. has n ≡ true) (reverse firsts) firsts (IsPermutation-sym firsts (reverse firsts) (IsPermutation-reverse firsts)) turned' in
        All-contains (λ n. has n ≡ true) nodes i (first.all has closed' firsts') (all i low);
    apart =
        let keys = n.sorted.keys in
        let down = second.turned (subst (AllPairs (λ t u. IsUnreached keys u t)) (sym back) (pairs_reversed (IsUnreached keys) firsts first.apart)) in
        let up = pairs_reversed (IsUnreached keys) tops second.apart in
        let up' = pairs_reversed (λ t u. IsUnreached keys u t) tops down in
        subst (AllPairs (λ t u. IsUnreached (needs_of n) t u × IsUnreached (needs_of n) u t)) (sym end)
        (λ i j d less low. (unreached_by_needs n indexed (get_or (reverse tops) i d) (get_or (reverse tops) j d) (up' i j d less low), unreached_by_needs n indexed (get_or (reverse tops) j d) (get_or (reverse tops) i d) (up i j d less low)));
  }

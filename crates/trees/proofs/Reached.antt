-- Nodes that edges lead to.
use Rattle.trees.proofs.Common.{◌≡◌, ◌∙◌, ℕ, zero, suc, ◌+◌, ◌<◌, ◌≤◌, ◌⊎◌, not, Bool, true, false, cond, List, [], ◌∷◌, ◌++◌, length, get_or, map, inl, inr, refl, sym, ap, subst, All, Contains, count_by, filter, Ordering, Less, Equal, Greater, arith, cases_lt, false≢true, length_push, All-cons, All-contains, All-contains_itself, All-filter, All-map, All-nil, All-weaker, Contains-append_right, Contains-push_cases, filter_passes, Contains-map}
use Rattle.std.proofs.lemmas.Cmp.{nat_cmp_total, on_total, then_total}
use Rattle.std.proofs.lemmas.Map.Views.{IsInRange-from_range_contains, range_contains-from_IsInRange}
use Rattle.std.specs.BTreeMap.Range.{range_contains}
use Rattle.std.specs.Cmp.{IsTotalOrder, nat_cmp_is}
use Rattle.std.specs.Ordering.{is_gt, nat_cmp, ordering_then}
use Rattle.std.specs.declared.ops.Bound.TheVariants.{Included}
use Rattle.trees.specs.Depending.{IsClosed, HasEach}
use Rattle.trees.specs.DependingParts.{edge_cmp, is_marked, HasMarked, IsClosedBut, MarksNeeds}
use Rattle.trees.proofs.Marks.{front_of, marked_counts, MarksAll}

-- ## Edges in a range

pub edges_total : IsTotalOrder edge_cmp
edges_total = then_total (on_total (λ (e : ℕ × ℕ). e.0) nat_cmp_total) (on_total (λ (e : ℕ × ℕ). e.1) nat_cmp_total)

not_above : (a b c d : ℕ) → a ≡ c → b ≤ d → is_gt (ordering_then (nat_cmp a c) (nat_cmp b d)) ≡ false
not_above a b c d same low =
    ap (λ (o : Ordering). is_gt (ordering_then o (nat_cmp b d))) (sym (nat_cmp_is a c Equal same))
    ∙ elim (cases_lt b d) [
      | inl less ↦ ap is_gt (sym (nat_cmp_is b d Less less))
      | inr up ↦ ap is_gt (sym (nat_cmp_is b d Equal (omega arith)))
    ]

above_not : (a c : ℕ) (o : Ordering) → is_gt (ordering_then (nat_cmp a c) o) ≡ false → a ≤ c
above_not a c o is = elim (cases_lt c a) [
  | inl more ↦ absurd (false≢true (sym is ∙ ap (λ (p : Ordering). is_gt (ordering_then p o)) (sym (nat_cmp_is a c Greater more))))
  | inr low ↦ low
]

-- the edges from a node
abbrev pub edges_from : List (ℕ × ℕ) → ℕ → ℕ → List (ℕ × ℕ)
edges_from edges node most = filter (range_contains edge_cmp (Included (node, 0)) (Included (node, most))) edges

-- an element that passes a test
pub passing_at : {X : Type 0} (p : X → Bool) (xs : List X) (x : X) (k : ℕ) → k < length xs → get_or xs k x ≡ x → p x ≡ true → Contains (filter p xs) x
passing_at p [] x k low is passes = absurd (omega arith)
passing_at p (y ∷ xs) x zero low is passes =
    subst (λ (b : Bool). Contains (cond b (y ∷ filter p xs) (filter p xs)) x) (sym (ap p is ∙ passes)) (0, omega arith, is)
passing_at p (y ∷ xs) x (suc k) low is passes = first (p y) (passing_at p xs x k (omega arith) is passes) where
  first : (b : Bool) → Contains (filter p xs) x → Contains (cond b (y ∷ filter p xs) (filter p xs)) x
  first true c = Contains-append_right (y ∷ []) (filter p xs) x c
  first false c = c

module _ (edges : List (ℕ × ℕ)) (node most : ℕ) where
  from_here : All (λ e. e.0 ≡ node) (edges_from edges node most)
  from_here =
      let inside = range_contains edge_cmp (Included (node, 0)) (Included (node, most)) in
      All-weaker (λ (e : ℕ × ℕ). inside e ≡ true) (λ e. e.0 ≡ node)
      (λ e is.
      let range = IsInRange-from_range_contains edges_total (Included (node, 0)) (Included (node, most)) e is in
      omega (arith, above_not node e.0 (nat_cmp 0 e.1) range.0, above_not e.0 node (nat_cmp e.1 most) range.1)) (edges_from edges node most) (filter_passes inside edges)

  -- an edge from the node is among them
  contains_from : (e : ℕ × ℕ) → Contains edges e → e.0 ≡ node → e.1 ≤ most → Contains (edges_from edges node most) e
  contains_from e c same low =
      passing_at (range_contains edge_cmp (Included (node, 0)) (Included (node, most))) edges e c.0 c.1 c.2
      (range_contains-from_IsInRange edges_total (Included (node, 0)) (Included (node, most)) e (not_above node 0 e.0 e.1 (sym same) (omega arith), not_above e.0 e.1 node most same low))

  -- so all that the node needs is marked
  pub needs_marked : (old new : List Bool) (left more : List ℕ) → length old ≤ most + 1 → MarksAll (map (λ e. e.1) (edges_from edges node most)) old new left more → MarksNeeds edges node old new left more
  needs_marked old new left more short so = record {
    size = so.size;
    kept = so.kept;
    still = so.still;
    added = so.added;
    needs = λ e c same low.
        All-contains (λ n. n < length old → is_marked new n ≡ true) (map (λ (d : ℕ × ℕ). d.1) (edges_from edges node most)) e.1 so.each
        (Contains-map (λ (d : ℕ × ℕ). d.1) (edges_from edges node most) e (contains_from e c same (omega arith))) low;
    found = λ has closed is.
        so.found has
        (All-map (λ n. has n ≡ true) (λ (e : ℕ × ℕ). e.1) (edges_from edges node most)
        (λ k d low.
        closed (get_or (edges_from edges node most) k d) (All-filter (range_contains edge_cmp (Included (node, 0)) (Included (node, most))) (Contains edges) edges (All-contains_itself edges) k d low)
        (ap has (from_here k d low) ∙ is)));
    count = so.count;
  }

-- ## Nodes that are reached

-- what is marked so far, and what is left
pub record Reaching (edges : List (ℕ × ℕ)) (from : ℕ) (old new : List Bool) (left : List ℕ) (i : ℕ) : Type 0 where
  pub size : length new ≡ length old
  pub kept : HasMarked (is_marked new) old
  pub found : (has : ℕ → Bool) → IsClosed edges has → has from ≡ true → HasMarked has old → HasMarked has new × HasEach has left
  pub closed : All (λ e. e.1 < length old) edges → IsClosedBut edges from (is_marked old) → (e : ℕ × ℕ) → Contains edges e → is_marked new e.0 ≡ true → Contains left e.0 ⊎ (is_marked new e.1 ≡ true)
  pub count : is_marked old from ≡ true → count_by not new + length left + i ≤ length old

module _ (edges : List (ℕ × ℕ)) (from : ℕ) (old : List Bool) where
  pub reaching_none : Reaching edges from old old (from ∷ []) 0
  reaching_none = record {
    size = refl;
    kept = λ n is. is;
    found = λ has closed is marked. (marked, All-cons (λ n. has n ≡ true) from [] is (All-nil (λ n. has n ≡ true)));
    closed = λ low but e c is. elim (but e c is) [ inl same ↦ inl (0, omega arith, sym same) | inr to ↦ inr to ];
    count = λ is. let most = marked_counts old from is in omega arith;
  }

  -- one node less is left, and those that it needs more
  pub reaching_more : (new newer : List Bool) (left rest more : List ℕ) (node i : ℕ) → Reaching edges from old new left i → left ≡ rest ++ node ∷ [] → MarksNeeds edges node new newer rest more → Reaching edges from old newer more (i + 1)
  reaching_more new newer left rest more node i so split marks = record {
    size = marks.size ∙ so.size;
    kept = λ n is. marks.kept n (so.kept n is);
    found = λ has closed is marked.
        let first = so.found has closed is marked in
        let front = front_of (λ n. has n ≡ true) rest node (subst (HasEach has) split first.1) in
        marks.found has closed front.1 first.0 front.0;
    closed = λ low but e c is.
        let short : e.1 < length new = let most = All-contains (λ (d : ℕ × ℕ). d.1 < length old) edges e low c in let same = so.size in omega arith in
        elim (marks.added e.0 is) [
          | inl was ↦
              elim (so.closed low but e c was) [
                | inl still ↦
                    elim (Contains-push_cases rest node e.0 (subst (λ ns. Contains ns e.0) split still)) [
                      | inl other ↦ inl (All-contains (Contains more) rest e.0 marks.still other)
                      | inr same ↦ inr (marks.needs e c (sym same) short)
                    ]
                | inr to ↦ inr (marks.kept e.1 to)
              ]
          | inr new' ↦ inl new'
        ];
    count = λ is. omega (arith, so.count is, marks.count, ap length split ∙ length_push rest node);
  }

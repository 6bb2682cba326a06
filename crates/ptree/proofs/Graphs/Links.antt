-- What the lists of a graph satisfy, over plain variables.
use Rattle.std.specs.Prelude.{slice_get, All, map, option_map, reverse}
use Rattle.std.proofs.Common.{◌≡◌, ◌≢◌, ℕ, zero, suc, ◌-◌, ◌<◌, ◌≤◌, ◌⊎◌, inl, inr, Bool, true, false, if◌then◌else◌, List, [], ◌∷◌, ◌++◌, length, get_or, set, take, Some, sym, ◌∙◌, ap, subst, refl, eqb, arith, length-append, length-set}
use Rattle.std.proofs.lemmas.List.{length-map, length-take, map-append, take-append-le, take_all}
use Rattle.std.proofs.lemmas.List.Elements.{All-get_or, All-weaker, All-map, All-push, All-filter}
use Rattle.std.proofs.lemmas.List.Sorted.{All-permutation, IsPermutation-reverse}
use Rattle.std.proofs.lemmas.Option.{slice_get_within, slice_get_read, slice_get-map}
use Rattle.ptree.specs.declared.graph.Edge.{Edge}
use Rattle.ptree.specs.declared.graph.Graph.{Graph}
use Rattle.ptree.specs.declared.graph.Node.{Node}
use Rattle.ptree.specs.Graph.{weights_of, edges_of, neighbors_of}
use Rattle.ptree.specs.GraphLinks.{ends_of, newest_from, EndsBelow, IsLinked}
use Rattle.ptree.proofs.Graphs.EdgeLists.{newest_from-le-length, newest_from-none, newest_settles, newest_splits, newest_within, newest_from-push_same, newest_from-push_other}

-- an element of a list that grew by one at its end
slice_get-push : {X : Type 0} (xs : List X) (x y : X) (i : ℕ) → slice_get (xs ++ x ∷ []) i ≡ Some y
    → (slice_get xs i ≡ Some y) ⊎ ((i ≡ length xs) × (x ≡ y))
slice_get-push [] x y zero h = inr (refl, cc)
slice_get-push [] x y (suc i) h = absurd (cc)
slice_get-push (z ∷ zs) x y zero h = inl h
slice_get-push (z ∷ zs) x y (suc i) h =
    elim (slice_get-push zs x y i h) [ inl k ↦ inl k | inr k ↦ inr (ap suc k.0, k.1) ]

-- an element of a list in which one was replaced
slice_get-set : {X : Type 0} (xs : List X) (j : ℕ) (x y : X) (i : ℕ) → slice_get (set xs j x) i ≡ Some y
    → ((i ≢ j) × (slice_get xs i ≡ Some y)) ⊎ ((i ≡ j) × (x ≡ y))
slice_get-set [] j x y i h = absurd (cc)
slice_get-set (z ∷ zs) zero x y zero h = inr (refl, cc)
slice_get-set (z ∷ zs) zero x y (suc i) h = inl (omega arith, h)
slice_get-set (z ∷ zs) (suc j) x y zero h = inl (omega arith, h)
slice_get-set (z ∷ zs) (suc j) x y (suc i) h =
    elim (slice_get-set zs j x y i h) [ inl k ↦ inl (omega (arith, k.0), k.1) | inr k ↦ inr (ap suc k.0, k.1) ]

-- an edge with these numbers
abbrev pub edge : ℕ → ℕ → ℕ → Edge
edge source target next = record { source = source; target = target; next = next }

-- the same edges among at least as many nodes
ends_more : (edges : List Edge) (m n : ℕ) → m ≤ n → All (EndsBelow m) edges → All (EndsBelow n) edges
ends_more edges m n h = All-weaker (EndsBelow m) (EndsBelow n) (λ e k. (omega arith, omega arith)) edges

module _ {N : Type 0} where
  -- a node with this weight, the number of its newest edge, and the number of its edges
  abbrev pub node : N → ℕ → ℕ → Node N
  node weight newest degree = record { weight = weight; newest = newest; degree = degree }

  -- a number without a node has no newest edge
  pub newest_of_none : (nodes : List (Node N)) (edges : List Edge) (v : ℕ) → IsLinked nodes edges → length nodes ≤ v
      → newest_from (map ends_of edges) v ≡ 0
  newest_of_none nodes edges v l h =
      let others = All-weaker (EndsBelow (length nodes)) (λ (e : Edge). e.source ≢ v) (λ e k. omega arith) edges l.ends in
      newest_from-none (map ends_of edges) v (All-map (λ p. p.0 ≢ v) ends_of edges others)

  -- one node more
  linked-node : (nodes : List (Node N)) (edges : List Edge) (weight : N) → IsLinked nodes edges → IsLinked (nodes ++ node weight 0 0 ∷ []) edges
  linked-node nodes edges weight l = record {
    ends = ends_more edges (length nodes) (length (nodes ++ node weight 0 0 ∷ [])) (omega (arith, length-append nodes (node weight 0 0 ∷ []))) l.ends;
    newest = λ v n h. elim (slice_get-push nodes (node weight 0 0) n v h) [
      | inl k ↦ l.newest v n k
      | inr k ↦ ap (λ (m : Node N). m.newest) (sym k.1) ∙ sym (newest_of_none nodes edges v l (omega (arith, k.0)))
    ];
    next = l.next;
  }

  -- one node more, or none if the list could not grow
  pub linked-node_if : (nodes new : List (Node N)) (edges : List Edge) (weight : N) (grew : Bool) → IsLinked nodes edges
      → new ≡ (if grew then nodes ++ node weight 0 0 ∷ [] else nodes) → IsLinked new edges
  linked-node_if nodes new edges weight true l h = subst (λ (ns : List (Node N)). IsLinked ns edges) (sym h) (linked-node nodes edges weight l)
  linked-node_if nodes new edges weight false l h = subst (λ (ns : List (Node N)). IsLinked ns edges) (sym h) l

  -- one edge more
  pub linked-edge : (nodes : List (Node N)) (edges : List Edge) (source target d : ℕ) (n : Node N) → IsLinked nodes edges
      → source < length nodes → target < length nodes → slice_get nodes source ≡ Some n
      → IsLinked (set nodes source (node n.weight (suc (length edges)) d)) (edges ++ edge source target n.newest ∷ [])
  linked-edge nodes edges source target d n l s t h = record {
    ends = All-push (EndsBelow (length marked)) edges added (ends_more edges (length nodes) (length marked) (omega (arith, counted)) l.ends) (omega (arith, counted), omega (arith, counted));
    newest = λ v m k. elim (slice_get-set nodes source (node n.weight (suc (length edges)) d) m v k) [
      | inl other ↦ l.newest v m other.1 ∙ sym (newest_from-push_other pairs (source, target) v (omega (arith, other.0))) ∙ sym (grown v)
      | inr same ↦ ap (λ (x : Node N). x.newest) (sym same.1) ∙ ap suc (sym (length-map edges ends_of)) ∙ sym (newest_from-push_same pairs (source, target) v (sym same.0)) ∙ sym (grown v)
    ];
    next = λ i e k. elim (slice_get-push edges added e i k) [
      | inl before ↦ l.next i e before ∙ sym (earlier i e.source (omega (arith, slice_get_within edges i e before)))
      | inr at_end ↦
          let all = earlier i source (omega (arith, at_end.0)) ∙ ap (λ p. newest_from p source) (take_all i pairs (omega (arith, at_end.0, length-map edges ends_of))) in
          ap (λ (x : Edge). x.next) (sym at_end.1) ∙ l.newest source n h ∙ sym all ∙ ap (λ (x : Edge). newest_from (take i (map ends_of (edges ++ added ∷ []))) x.source) at_end.1
    ];
  }
    where
      added : Edge
      added = edge source target n.newest

      pairs : List (ℕ × ℕ)
      pairs = map ends_of edges

      marked : List (Node N)
      marked = set nodes source (node n.weight (suc (length edges)) d)

      counted : length marked ≡ length nodes
      counted = length-set nodes source (node n.weight (suc (length edges)) d)

      grown : (v : ℕ) → newest_from (map ends_of (edges ++ added ∷ [])) v ≡ newest_from (pairs ++ (source, target) ∷ []) v
      grown v = ap (λ p. newest_from p v) (map-append ends_of edges (added ∷ []))

      -- the first edges are those without the new one
      earlier : (i v : ℕ) → i ≤ length edges → newest_from (take i (map ends_of (edges ++ added ∷ []))) v ≡ newest_from (take i pairs) v
      earlier i v k =
          ap (λ p. newest_from (take i p) v) (map-append ends_of edges (added ∷ []))
          ∙ ap (λ p. newest_from p v) (take-append-le i pairs ((source, target) ∷ []) (omega (arith, length-map edges ends_of)))

  -- one edge more, as the code reads, grows and marks the lists
  pub linked-edge_by : (nodes : List (Node N)) (edges new : List Edge) (source target count d : ℕ) (read written : Node N) (pushed : Bool)
      → IsLinked nodes edges → source < length nodes → target < length nodes
      → read ≡ get_or nodes source read → written ≡ get_or nodes source written → pushed ≡ true → count ≡ suc (length edges)
      → new ≡ (if pushed then edges ++ edge source target read.newest ∷ [] else edges) → IsLinked (set nodes source (node written.weight count d)) new
  linked-edge_by nodes edges new source target count d read written pushed l s t r w p c e =
      let first = slice_get_read nodes (length nodes) source read refl s r in
      let second = slice_get_read nodes (length nodes) source written refl s w in
      let same : read ≡ written = cc in
      let marked = ap (λ (n : Node N). node n.weight (suc (length edges)) d) same ∙ ap (λ k. node written.weight k d) (sym c) in
      let grown = sym (e ∙ ap (λ b. if b then edges ++ edge source target read.newest ∷ [] else edges) p) in
      subst (λ (es : List Edge). IsLinked (set nodes source (node written.weight count d)) es) grown
      (subst (λ (n : Node N). IsLinked (set nodes source n) (edges ++ edge source target read.newest ∷ [])) marked
      (linked-edge nodes edges source target d read l s t first))

  -- if m is the number of the newest edge from v, its target is the first neighbour, and the edges
  -- before it give the others
  pub linked-step : (nodes : List (Node N)) (edges : List Edge) (v m : ℕ) (e : Edge) → IsLinked nodes edges → 0 < m
      → m ≡ newest_from (take m (map ends_of edges)) v → e ≡ get_or edges (m - 1) e
      → (neighbors_of (take m (map ends_of edges)) v ≡ e.target ∷ neighbors_of (take e.next (map ends_of edges)) v)
      × (e.next ≡ newest_from (take e.next (map ends_of edges)) v) × (e.next < m)
  linked-step nodes edges v m e l p n r =
      let pairs = map ends_of edges in
      let i = m - 1 in
      let one_more : m ≡ suc i = omega arith in
      let within : m ≤ length edges = omega (arith, newest_within pairs v m n, length-map edges ends_of) in
      let found = slice_get_read edges (length edges) i e refl (omega arith) r in
      let here = newest_splits pairs v i (ends_of e) (slice_get-map ends_of edges i ∙ ap (option_map ends_of) found)
      (subst (λ (j : ℕ). j ≡ newest_from (take j pairs) v) one_more n) in
      let older : e.next ≡ newest_from (take i pairs) v = l.next i e found ∙ ap (newest_from (take i pairs)) here.0 in
      let rest = newest_settles pairs v i e.next (omega (arith, length-map edges ends_of)) older in (
        ap (λ j. neighbors_of (take j pairs) v) one_more ∙ here.1 ∙ ap (λ ts. e.target ∷ ts) (sym rest.0),
        rest.1,
        omega (arith, newest_from-le-length (take i pairs) v, length-take i pairs),
      )

-- each neighbour is a node
pub neighbors_below : {N : Type 0} (g : Graph N) (v : ℕ) → All (λ u. u < length (weights_of g)) (neighbors_of (edges_of g) v)
neighbors_below g v =
    let IsBelow : ℕ × ℕ → Type 0 = λ p. p.1 < length (weights_of g) in
    let edges = edges_of g in
    let counted = length-map g.nodes.items (λ n. n.weight) in
    let targets = All-weaker (EndsBelow (length g.nodes.items)) (λ (e : Edge). e.target < length (weights_of g)) (λ e k. omega (arith, counted)) g.edges.items g.linked.ends in
    let reversed = All-permutation IsBelow edges (reverse edges) (IsPermutation-reverse edges) (All-map IsBelow ends_of g.edges.items targets) in
    All-map (λ u. u < length (weights_of g)) (λ p. p.1) _ (All-filter (λ p. eqb p.0 v) IsBelow (reverse edges) reversed)

-- a node has its weight, and the number of the newest edge from it
pub node_at : {N : Type 0} (g : Graph N) (v : ℕ) (n : Node N) → v < length (weights_of g) → n ≡ get_or g.nodes.items v n
    → (Some n.weight ≡ slice_get (weights_of g) v) × (n.newest ≡ newest_from (edges_of g) v)
node_at g v n h r =
    let found = slice_get_read g.nodes.items (length g.nodes.items) v n refl (omega (arith, h, length-map g.nodes.items (λ n. n.weight))) r in (
      sym (slice_get-map (λ n. n.weight) g.nodes.items v ∙ ap (option_map (λ n. n.weight)) found),
      g.linked.newest v n found,
    )

-- the target of the newest edge from a node, among the first m edges, is a node
pub target_at : {N : Type 0} (g : Graph N) (v m : ℕ) (e : Edge) → 0 < m → m ≡ newest_from (take m (edges_of g)) v → e ≡ get_or g.edges.items (m - 1) e → e.target < length (weights_of g)
target_at g v m e p n r =
    let within = newest_within (edges_of g) v m n in
    let ends : EndsBelow (length g.nodes.items) e = subst (EndsBelow (length g.nodes.items)) (sym r)
    (All-get_or (EndsBelow (length g.nodes.items)) g.edges.items (m - 1) e (omega (arith, p, within, length-map g.edges.items ends_of)) g.linked.ends) in
    omega (arith, ends.1, length-map g.nodes.items (λ n. n.weight))

-- Edges that are reversed one after another, and linked anew.
use Rattle.std.specs.Prelude.{slice_get, All, map}
use Rattle.std.proofs.Common.{◌≡◌, ℕ, zero, suc, ◌+◌, ◌<◌, ◌≤◌, List, [], ◌∷◌, ◌++◌, length, get_or, set, take, Some, sym, ◌∙◌, ap, subst, refl, arith}
use Rattle.std.proofs.Math.Seq.{map-set_same, take-append_seam, take-suc-set}
use Rattle.std.proofs.lemmas.List.{length-take, take_more_set}
use Rattle.std.proofs.lemmas.List.Elements.{All-nil, All-head, All-tail, All-get_or, All-push}
use Rattle.std.proofs.lemmas.Option.{slice_get-get_or}
use Rattle.ptree.proofs.Graphs.Links.{edge, node, linked-edge}
use Rattle.ptree.specs.declared.graph.Edge.{Edge}
use Rattle.ptree.specs.declared.graph.Node.{Node}
use Rattle.ptree.specs.Graph.{turned}
use Rattle.ptree.specs.GraphLinks.{ends_of, turned_at, turned_first, EndsBelow, IsLinked}

-- none is turned yet
pub first_none : (edges : List (ℕ × ℕ)) → edges ≡ turned_first 0 edges
first_none [] = refl
first_none (e ∷ edges) = refl

-- one more
pub first_more : (n : ℕ) (edges : List (ℕ × ℕ)) → turned_at n (turned_first n edges) ≡ turned_first (suc n) edges
first_more n [] = refl
first_more zero (e ∷ edges) = ap (λ es. (e.1, e.0) ∷ es) (first_none edges)
first_more (suc n) (e ∷ edges) = ap (λ es. (e.1, e.0) ∷ es) (first_more n edges)

-- all are turned
pub first_all : (n : ℕ) (edges : List (ℕ × ℕ)) → length edges ≤ n → turned_first n edges ≡ map turned edges
first_all n [] h = refl
first_all zero (e ∷ edges) h = absurd (omega arith)
first_all (suc n) (e ∷ edges) h = ap (λ es. (e.1, e.0) ∷ es) (first_all n edges (omega arith))

-- an edge is replaced by one with its ends reversed
pub ends_turned : (edges : List Edge) (i : ℕ) (e new : Edge) → slice_get edges i ≡ Some e → new.source ≡ e.target → new.target ≡ e.source
    → map ends_of (set edges i new) ≡ turned_at i (map ends_of edges)
ends_turned [] i e new h s t = absurd (cc)
ends_turned (x ∷ xs) zero e new h s t =
    let same : x ≡ e = cc in
    ap (λ p. p ∷ map ends_of xs) (ap (λ a. (a, new.target)) (s ∙ ap (λ (z : Edge). z.target) (sym same)) ∙ ap (λ a. (x.target, a)) (t ∙ ap (λ (z : Edge). z.source) (sym same)))
ends_turned (x ∷ xs) (suc i) e new h s t = ap (λ es. ends_of x ∷ es) (ends_turned xs i e new h s t)

-- where no node has an edge, they are linked over no edges
pub linked_none : {N : Type 0} (nodes : List (Node N)) → All (λ n. n.newest ≡ 0) nodes → IsLinked nodes []
linked_none {N = N} nodes h = record {
  ends = All-nil (EndsBelow (length nodes));
  newest = λ v n s. unlinked nodes h v n s;
  next = λ i e s. absurd (cc);
} where
  unlinked : (ns : List (Node N)) → All (λ n. n.newest ≡ 0) ns → (v : ℕ) (n : Node N) → slice_get ns v ≡ Some n → n.newest ≡ 0
  unlinked [] a v n s = absurd (cc)
  unlinked (x ∷ xs) a zero n s = let same : x ≡ n = cc in ap (λ (z : Node N). z.newest) (sym same) ∙ All-head (λ (z : Node N). z.newest ≡ 0) x xs a
  unlinked (x ∷ xs) a (suc v) n s = unlinked xs (All-tail (λ (z : Node N). z.newest ≡ 0) x xs a) v n s

-- the edge at i is reversed and linked after those before it
module _ {N : Type 0} (nodes : List (Node N)) (edges : List Edge) (i degree : ℕ) (e' : Edge) (n' : Node N) (within : i < length edges) (ends : All (EndsBelow (length nodes)) edges) where
  -- the edge as it was
  abbrev old : Edge
  old = get_or edges i e'

  -- the node that it goes from then
  abbrev marked : Node N
  marked = get_or nodes old.target n'

  -- the edge as it is then
  abbrev new : Edge
  new = edge old.target old.source marked.newest

  -- all are linked
  pub linked_turned : IsLinked nodes (take i edges) → IsLinked (set nodes old.target (node marked.weight (i + 1) degree)) (take (suc i) (set edges i new))
  linked_turned l =
      let below : EndsBelow (length nodes) old = All-get_or (EndsBelow (length nodes)) edges i e' within ends in
      let count : suc (length (take i edges)) ≡ i + 1 = omega (arith, length-take i edges) in
      subst (λ (k : ℕ). IsLinked (set nodes old.target (node marked.weight k degree)) (take (suc i) (set edges i new))) count
      (subst (λ (es : List Edge). IsLinked (set nodes old.target (node marked.weight (suc (length (take i edges))) degree)) es) (sym (take-suc-set edges i new within))
      (linked-edge nodes (take i edges) old.target old.source degree marked l below.1 below.0 (slice_get-get_or nodes old.target n' below.1)))

  -- all weights are as they were
  pub turned_weights : map (λ (n : Node N). n.weight) (set nodes old.target (node marked.weight (i + 1) degree)) ≡ map (λ n. n.weight) nodes
  turned_weights = map-set_same (λ (n : Node N). n.weight) nodes old.target (node marked.weight (i + 1) degree) n' refl

-- a list that was written through a slice of it
pub written_back : {X : Type 0} (n : ℕ) (new rest : List X) → n ≡ length new → new ≡ take n (new ++ rest)
written_back n new rest e = sym (ap (λ k. take k (new ++ rest)) e ∙ take-append_seam new rest)

-- the first edges are reversed and linked, and all weights are as they were
pub record AreTurned {N : Type 0} (first : ℕ) (pairs : List (ℕ × ℕ)) (weights : List N) (ns : List (Node N)) (es : List Edge) : Type 0 where
  pub ends : All (EndsBelow (length ns)) es
  pub linked : IsLinked ns (take first es)
  pub turns : map ends_of es ≡ turned_first first pairs
  pub same : map (λ n. n.weight) ns ≡ weights

module _ {N : Type 0} (first : ℕ) (pairs : List (ℕ × ℕ)) (weights : List N) where
  -- the same, as the lists are read back from slices
  pub turned_back : (nodes nodes' : List (Node N)) (edges edges' : List Edge) → nodes ≡ nodes' → edges ≡ edges' → AreTurned first pairs weights nodes edges → AreTurned first pairs weights nodes' edges'
  turned_back nodes nodes' edges edges' h k t =
      subst (λ (ns : List (Node N)). AreTurned first pairs weights ns edges') h (subst (λ (es : List Edge). AreTurned first pairs weights nodes es) k t)

  -- none is reversed yet
  pub turned_start : (nodes nodes' : List (Node N)) (edges : List Edge) → nodes ≡ nodes' → All (EndsBelow (length nodes)) edges → All (λ n. n.newest ≡ 0) nodes → map ends_of edges ≡ pairs → map (λ n. n.weight) nodes ≡ weights → first ≡ 0
      → AreTurned first pairs weights nodes' edges
  turned_start nodes nodes' edges h ends unlinked p w z =
      subst (λ (ns : List (Node N)). AreTurned first pairs weights ns edges) h
      (subst (λ k. AreTurned k pairs weights nodes edges) (sym z) (record { ends = ends; linked = linked_none nodes unlinked; turns = p ∙ first_none pairs; same = w }))

  -- all edges are reversed
  pub turned_whole : (nodes : List (Node N)) (edges : List Edge) → length pairs ≤ first → AreTurned first pairs weights nodes edges → map ends_of edges ≡ map turned pairs
  turned_whole nodes edges h t = t.turns ∙ first_all first pairs h

-- each node of the list has no edge
pub unlink_more : {N : Type 0} (nodes : List (Node N)) (i : ℕ) (m : Node N) → i < length nodes → m.newest ≡ 0
    → All (λ n. n.newest ≡ 0) (take i nodes) → All (λ n. n.newest ≡ 0) (take (i + 1) (set nodes i m))
unlink_more {N = N} nodes i m h e a =
    let more : take i nodes ++ m ∷ [] ≡ take (i + 1) (set nodes i m) = sym (take_more_set nodes i m h) in
    subst (λ (ns : List (Node N)). All (λ (n : Node N). n.newest ≡ 0) ns) more (All-push (λ (n : Node N). n.newest ≡ 0) (take i nodes) m a e)

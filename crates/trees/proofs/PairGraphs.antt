-- Graphs of pairs of words.
use Rattle.trees.proofs.Common.{◌≡◌, ◌∙◌, ℕ, zero, suc, ◌+◌, ◌<◌, ◌≤◌, not, Bool, true, false, cond, List, [], ◌∷◌, ◌++◌, length, get_or, map, reverse, take, Option, Some, None, inl, inr, refl, sym, ap, subst, Bor, All, Any, Contains, filter, flat_map, String, string_bytes, Global, bytes_eq, arith, All-nil, All-cons, All-head, All-tail, All-append, All-filter, All-map, All-weaker, All-contains, Contains-append_right, All-permutation, IsPermutation-reverse, bytes_eq-Decides, NodeIndex, Contains-map}
use Rattle.std.proofs.Math.ListN.{get_or-map}
use Rattle.std.proofs.lemmas.List.{length-map, map-append, reverse-append, take_all, take_more, length_push}
use Rattle.ptree.specs.Graph.{edges_of, numbers_of, turned, weights_of, LacksNode}
use Rattle.trees.specs.declared.deps.Dependencies.{Dependencies}
use Rattle.trees.specs.declared.deps.network.Network.{Network}
use Rattle.trees.specs.declared.source.Source.{Source}
use Rattle.trees.specs.Depending.{pair_words, number, is_need, directed, firsts, need_of, needs_between, AreNames, HoldsNone, HoldsPairs, IsGraphIn, IsRooted, IsWithin, StandsAbove}
use Rattle.trees.specs.DependingParts.{texts_of, labels_of, needs_of, paths_of, HasRoot, IsWhole}
use Rattle.trees.specs.Shown.{shown_text}
use Rattle.trees.proofs.Pairs.{pairs_unique}

-- ## Words of pairs

-- a pair has two of these words
abbrev pub HasWords : List (List ℕ) → List ℕ × List ℕ → Type 0
HasWords words p = Contains words p.0 × Contains words p.1

pub words_known : (pairs : List (List ℕ × List ℕ)) → All (HasWords (flat_map pair_words pairs)) pairs
words_known [] = All-nil (HasWords [])
words_known (p ∷ pairs) =
    let rest = flat_map pair_words pairs in
    All-cons (HasWords (p.0 ∷ p.1 ∷ rest)) p pairs ((0, omega arith, refl), (1, omega arith, refl))
    (All-weaker (HasWords rest) (HasWords (p.0 ∷ p.1 ∷ rest)) (λ q h. (Contains-append_right (p.0 ∷ p.1 ∷ []) rest q.0 h.0, Contains-append_right (p.0 ∷ p.1 ∷ []) rest q.1 h.1)) pairs (words_known pairs))

-- and so two of the names
pub names_known : (pairs : List (List ℕ × List ℕ)) (names : List (List ℕ)) → AreNames pairs names → All (HasWords names) pairs
names_known pairs names are =
    All-weaker (HasWords (flat_map pair_words pairs)) (HasWords names) (λ p h. ((are.words p.0).1 h.0, (are.words p.1).1 h.1)) pairs (words_known pairs)

-- of the pair at a place
pub pair_known : (ps : List (Bor (List ℕ) × Bor (List ℕ))) (names : List (List ℕ)) → AreNames (map texts_of ps) names → (i : ℕ) (d : Bor (List ℕ) × Bor (List ℕ)) → i < length ps → HasWords names (texts_of (get_or ps i d))
pair_known ps names are i d low = subst (HasWords names) (get_or-map texts_of ps i d) (names_known (map texts_of ps) names are i (texts_of d) (rw length-map low))

-- ## Numbers of words

-- the number of a word that is there
number_first : (x : List ℕ) (names : List (List ℕ)) (w : List ℕ) (b : Bool) → bytes_eq w x ≡ b → number (x ∷ names) w ≡ cond b 0 (1 + number names w)
number_first x names w true e = ap (λ (c : Bool). cond (not c) (1 + number names w) 0) e
number_first x names w false e = ap (λ (c : Bool). cond (not c) (1 + number names w) 0) e

known_at : (names : List (List ℕ)) (w : List ℕ) (k : ℕ) → k < length names → get_or names k w ≡ w → number names w < length names
known_at [] w k low is = absurd (omega arith)
known_at (x ∷ names) w zero low is = let n = number_first x names w true ((bytes_eq-Decides w x).1 (sym is)) in omega (arith, n)
known_at (x ∷ names) w (suc k) low is = test (bytes_eq w x) refl (known_at names w k (omega arith) is) where
  test : (b : Bool) → bytes_eq w x ≡ b → number names w < length names → number (x ∷ names) w < length (x ∷ names)
  test true e rest = let n = number_first x names w true e in omega (arith, n)
  test false e rest = let n = number_first x names w false e in omega (arith, n)

pub number_known : (names : List (List ℕ)) (w : List ℕ) → Contains names w → number names w < length names
number_known names w c = known_at names w c.0 c.1 c.2

pub directed_within : (b : Bool) (n : ℕ) (e : ℕ × ℕ) → IsWithin n e → IsWithin n (directed b e)
directed_within true n e h = (h.1, h.0)
directed_within false n e h = h

pub all_firsts : {X : Type 0} (P : X → Type 0) (same : X → X → Bool) (xs : List X) → All P xs → All P (firsts same xs)
all_firsts P same [] h = h
all_firsts P same (x ∷ xs) h =
    All-cons P x (filter (λ y. not (same x y)) (firsts same xs)) (All-head P x xs h) (All-filter (λ y. not (same x y)) P (firsts same xs) (all_firsts P same xs (All-tail P x xs h)))

-- what pairs need is among the names
pub words_within : (pairs : List (List ℕ × List ℕ)) (names : List (List ℕ)) → AreNames pairs names → All (IsWithin (length names)) (needs_between names pairs)
words_within pairs names are =
    let n : ℕ = length names in
    All-map (IsWithin n) (need_of names) (filter is_need pairs)
    (All-filter is_need (λ p. IsWithin n (need_of names p)) pairs (All-weaker (HasWords names) (λ p. IsWithin n (need_of names p)) (λ p h. (number_known names p.0 h.0, number_known names p.1 h.1)) pairs (names_known pairs names are)))

-- ## Roots

-- edges to nodes below a further one
tops_within : (n : ℕ) (tops : List ℕ) → All (λ t. t < n) tops → All (IsWithin (n + 1)) (map (λ t. (n, t)) tops)
tops_within n tops low = All-map (IsWithin (n + 1)) (λ t. (n, t)) tops (All-weaker (λ t. t < n) (λ t. IsWithin (n + 1) (n, t)) (λ t h. (omega arith, omega arith)) tops low)

more_within : (n : ℕ) (edges : List (ℕ × ℕ)) (tops : List ℕ) → All (IsWithin n) edges → All (λ t. t < n) tops → All (IsWithin (n + 1)) (edges ++ map (λ t. (n, t)) tops)
more_within n edges tops all low =
    All-append (IsWithin (n + 1)) edges (map (λ t. (n, t)) tops) (All-weaker (IsWithin n) (IsWithin (n + 1)) (λ e h. let a = h.0 in let b = h.1 in (omega arith, omega arith)) edges all) (tops_within n tops low)

above_within : (names : List (List ℕ)) (label : List ℕ) (edges : List (ℕ × ℕ)) (tops : List ℕ) (texts : List (List ℕ)) (all : List (ℕ × ℕ)) → All (IsWithin (length names)) edges → All (λ t. t < length names) tops
    → texts ≡ names ++ label ∷ [] → all ≡ edges ++ map (λ t. (length names, t)) tops → All (IsWithin (length texts)) all
above_within names label edges tops texts all within low labels is =
    subst (λ (n : ℕ). All (IsWithin n) all) (sym (ap length labels ∙ length_push names label)) (subst (All (IsWithin (length names + 1))) (sym is) (more_within (length names) edges tops within low))

same_within : (names : List (List ℕ)) (edges : List (ℕ × ℕ)) (texts : List (List ℕ)) (all : List (ℕ × ℕ)) → All (IsWithin (length names)) edges → texts ≡ names → all ≡ edges → All (IsWithin (length texts)) all
same_within names edges texts all within labels is = subst (λ ts. All (IsWithin (length ts)) all) (sym labels) (subst (All (IsWithin (length names))) (sym is) within)

stands_within : (label : List ℕ) (names : List (List ℕ)) (edges : List (ℕ × ℕ)) (tops : List ℕ) (texts : List (List ℕ)) (all : List (ℕ × ℕ)) (root : ℕ) → All (IsWithin (length names)) edges → All (λ t. t < length names) tops
    → StandsAbove label names edges tops texts all root → All (IsWithin (length texts)) all
stands_within label names edges [] texts all root within low h = above_within names label edges [] texts all within low h.1 h.2
stands_within label names edges (top ∷ []) texts all root within low h = same_within names edges texts all within h.1 h.2
stands_within label names edges (top ∷ u ∷ tops) texts all root within low h = above_within names label edges (top ∷ u ∷ tops) texts all within low h.1 h.2

-- the edges of a graph from a root on are between its nodes
pub rooted_within : (source : Source) (name : Option (Bor (List ℕ))) (paths names : List (List ℕ)) (edges : List (ℕ × ℕ)) (texts : List (List ℕ)) (all : List (ℕ × ℕ)) (root : ℕ) → All (IsWithin (length names)) edges
    → IsRooted source name paths names edges texts all root → All (IsWithin (length texts)) all
rooted_within source (Some name) paths names edges texts all root within h = same_within names edges texts all within h.1 h.2
rooted_within source None paths names edges texts all root within h = stands_within h.0 names edges h.1 texts all root within h.3 h.5

-- so no edge lacks a node
pub none_lacks : (n : ℕ) (edges : List (NodeIndex × NodeIndex)) → All (IsWithin n) (map numbers_of edges) → Any (LacksNode n) edges → ⊥
none_lacks n edges all any =
    let e = any.1 in
    let at = Contains-map numbers_of edges e (any.0, any.2, any.3) in
    let within = All-contains (IsWithin n) (map numbers_of edges) (numbers_of e) all at in
    elim any.4 [ inl low ↦ let no' : ⊥ = omega (arith, within.0) in no' | inr low ↦ let no' : ⊥ = omega (arith, within.1) in no' ]

-- ## Graphs

-- a reversed list
map_reversed : {X Y : Type 0} (f : X → Y) (xs : List X) → map f (reverse xs) ≡ reverse (map f xs)
map_reversed f [] = refl
map_reversed f (x ∷ xs) =
    ap (map f) (reverse-append (x ∷ []) xs)
    ∙ (map-append f (reverse xs) (x ∷ []) ∙ (ap (λ ys. ys ++ f x ∷ []) (map_reversed f xs) ∙ sym (reverse-append (f x ∷ []) (map f xs))))

-- the labels of a graph, and one more
pub label_shown : (is_terminal : Bool) (ws labels : List (String Global)) (i : ℕ) (w label : String Global) → i < length labels → label ≡ get_or labels i label → map string_bytes ws ≡ map (shown_text is_terminal) (map string_bytes (take i labels))
    → string_bytes w ≡ shown_text is_terminal (string_bytes label) → map string_bytes (ws ++ w ∷ []) ≡ map (shown_text is_terminal) (map string_bytes (take (i + 1) labels))
label_shown is_terminal ws labels i w label low is so text =
    map-append string_bytes ws (w ∷ [])
    ∙ (ap (λ ts. ts ++ string_bytes w ∷ []) so
    ∙ (ap (λ (t : List ℕ). map (shown_text is_terminal) (map string_bytes (take i labels)) ++ t ∷ []) text
    ∙ sym (ap (λ ls. map (shown_text is_terminal) (map string_bytes ls)) (take_more labels i label low ∙ ap (λ (l : String Global). take i labels ++ l ∷ []) (sym is))
    ∙ (ap (map (shown_text is_terminal)) (map-append string_bytes (take i labels) (label ∷ [])) ∙ map-append (shown_text is_terminal) (map string_bytes (take i labels)) (string_bytes label ∷ [])))))

-- as many nodes as labels
pub same_count : (is_terminal : Bool) (ws labels : List (String Global)) (i : ℕ) → length labels ≤ i → map string_bytes ws ≡ map (shown_text is_terminal) (map string_bytes (take i labels)) → length ws ≡ length (map string_bytes labels)
same_count is_terminal ws labels i end so =
    sym (length-map ws string_bytes) ∙ (ap length (so ∙ ap (λ ls. map (shown_text is_terminal) (map string_bytes ls)) (take_all i labels end)) ∙ length-map (map string_bytes labels) (shown_text is_terminal))

-- what is drawn of a network
pub graph_held : (source : Source) (name : Option (Bor (List ℕ))) (is_terminal : Bool) (read rooted drawn : Network) (d : Dependencies) → HasRoot source name read rooted d.root.0 → drawn.labels ≡ rooted.labels → drawn.edges.items ≡ reverse rooted.edges.items
    → map string_bytes (weights_of d.graph) ≡ map (shown_text is_terminal) (labels_of drawn) → edges_of d.graph ≡ needs_of drawn → IsGraphIn source name is_terminal (paths_of read) (labels_of read) (needs_of read) d
graph_held source name is_terminal read rooted drawn d root labels turned texts edges = record {
  texts = labels_of rooted;
  all = needs_of rooted;
  rooted = root;
  weights = texts ∙ ap (λ v. map (shown_text is_terminal) (map string_bytes v.items)) labels;
  drawn = edges ∙ (ap (map numbers_of) turned ∙ map_reversed numbers_of rooted.edges.items);
}

-- it has no edge without a node
pub graph_whole : (source : Source) (name : Option (Bor (List ℕ))) (read rooted drawn : Network) (root : ℕ) → IsWhole read → HasRoot source name read rooted root
    → drawn.labels ≡ rooted.labels → drawn.edges.items ≡ reverse rooted.edges.items → Any (LacksNode (length (labels_of drawn))) drawn.edges.items → ⊥
graph_whole source name read rooted drawn root whole has labels turned =
    let within = rooted_within source name (paths_of read) (labels_of read) (needs_of read) (labels_of rooted) (needs_of rooted) root whole.within has in
    none_lacks (length (labels_of drawn)) drawn.edges.items
    (subst (λ v. All (IsWithin (length (map string_bytes v.items))) (needs_of drawn)) (sym labels)
    (subst (All (IsWithin (length (labels_of rooted)))) (sym (ap (map numbers_of) turned ∙ map_reversed numbers_of rooted.edges.items)) (All-permutation (IsWithin (length (labels_of rooted))) (needs_of rooted) (reverse (needs_of rooted)) (IsPermutation-reverse (needs_of rooted)) within)))

-- a source without lines of words has no pairs
pub none_held : (source : Source) (found : List (Bor (List ℕ) × Bor (List ℕ))) → length found ≡ 0 → HoldsPairs source (map texts_of found) → HoldsNone source
none_held source [] empty held = λ pairs other. pairs_unique pairs [] (sym other.words ∙ held.words)
none_held source (p ∷ found) empty held = absurd (omega arith)

-- Graphs expanded once, by computation.
use Rattle.std.specs.Prelude.{replicate}
use Rattle.std.proofs.Common.{◌≡◌, ℕ, true, false, List, [], ◌∷◌, refl}
use Rattle.ptree.specs.Graph.{neighbors_of}
use Rattle.ptree.specs.Growing.{grow}
use Rattle.ptree.specs.Occurrence.{OccurrenceTree, occurrence, none, item}

-- the occurrences from node 0 down to a depth, in a graph of five nodes
abbrev occurrences_from_0 : List (ℕ × ℕ) → ℕ → OccurrenceTree
occurrences_from_0 edges depth = (grow (neighbors_of edges) depth (replicate 5 false) 0).occurrence

-- 0 over 1 and 2, 1 over 2 and 3, and 4 below 2 and 3; a node's neighbours are its newest edges
-- first
abbrev shared : List (ℕ × ℕ)
shared = (0, 2) ∷ (0, 1) ∷ (1, 3) ∷ (1, 2) ∷ (2, 4) ∷ (3, 4) ∷ []

-- 0 [1 [2 [4], 3 [4]], 2 repeated]: 4 has no neighbours, so it is never repeated
once : occurrences_from_0 shared 9
    ≡ occurrence 0 false (item 1 false (item 2 false (item 4 false none none) (item 3 false (item 4 false none none) none)) (item 2 true none none))
once = refl

-- to level 2: 0 [1 [2, 3], 2 [4]]. At level 2 nothing is below 2, so its later occurrence has
-- its neighbours
cut : occurrences_from_0 shared 2 ≡ occurrence 0 false (item 1 false (item 2 false none (item 3 false none none)) (item 2 false (item 4 false none none) none))
cut = refl

-- at depth 0 the start is alone, and not repeated
alone : occurrences_from_0 shared 0 ≡ occurrence 0 false none
alone = refl

-- 0 to 1, 1 to 2, and 2 to all three: 0 [1 [2 [2 repeated, 1 repeated, 0 repeated]]]
cycle : occurrences_from_0 ((0, 1) ∷ (1, 2) ∷ (2, 0) ∷ (2, 1) ∷ (2, 2) ∷ []) 9
    ≡ occurrence 0 false (item 1 false (item 2 false (item 2 true none (item 1 true none (item 0 true none none))) none) none)
cycle = refl

-- an edge twice: 0 [1 [2], 1 repeated]
parallel : occurrences_from_0 ((0, 1) ∷ (0, 1) ∷ (1, 2) ∷ []) 9 ≡ occurrence 0 false (item 1 false (item 2 false none none) (item 1 true none none))
parallel = refl

-- 3 comes first at the depth, below 2, and then at level 1, where its neighbours are: 0 [1 [2
-- [3]], 3 [4]]
late : occurrences_from_0 ((0, 3) ∷ (0, 1) ∷ (1, 2) ∷ (2, 3) ∷ (3, 4) ∷ []) 3
    ≡ occurrence 0 false (item 1 false (item 2 false (item 3 false none none) none) (item 3 false (item 4 false none none) none))
late = refl

-- repeated at the depth where the neighbours are above: 0 [1 [2], 3 [1 repeated]]
repeated_at_depth : occurrences_from_0 ((0, 3) ∷ (0, 1) ∷ (1, 2) ∷ (3, 1) ∷ []) 2
    ≡ occurrence 0 false (item 1 false (item 2 false none none) (item 3 false (item 1 true none none) none))
repeated_at_depth = refl

-- How many levels there are below something.
use Rattle.std.specs.Prelude.{◌≡◌, ◌≤◌, ℕ, suc, Bool, true, false, List, length, Option, Some, None, slice_index_or}
use Rattle.ptree.specs.Address.{Address, at, IsAddress}
use Rattle.ptree.specs.Graph.{neighbors_of}
use Rattle.ptree.specs.Occurrence.{OccurrenceTree, occurrence_kids, IsExpandedOnce}
use Rattle.trees.specs.declared.levels.Walks.{Walks}
use Rattle.trees.specs.declared.levels.Walks.TheVariants.{Unknown, Open, Longest}

-- something is so many levels below x
abbrev pub HasLevel : {X : Type 0} → (X → List X) → ℕ → X → Type 0
HasLevel kids n x = (a : Address) × (length a ≡ n) × IsAddress kids x a

-- what is drawn of a graph from a node on has more than 5,000 levels: a walk from the node has more
-- steps or, where each node is expanded once, an occurrence is further down
abbrev pub HasMoreLevels : List (ℕ × ℕ) → ℕ → Bool → Type 0
HasMoreLevels edges root true = HasLevel (neighbors_of edges) 5001 root
HasMoreLevels edges root false = (t : OccurrenceTree) × IsExpandedOnce (neighbors_of edges) root 5001 t × HasLevel occurrence_kids 5001 t

-- ## Walks

-- x has n levels below it, and no more
pub record IsHeight {X : Type 0} (kids : X → List X) (x : X) (n : ℕ) : Type 0 where
  pub some : HasLevel kids n x
  pub no_more : HasLevel kids (suc n) x → ⊥

-- a walk of so many steps leads from x to y
abbrev pub Leads : {X : Type 0} → (X → List X) → ℕ → X → X → Type 0
Leads kids n x y = (a : Address) × (length a ≡ n) × (at kids x a ≡ Some y)

-- what is known of the walks from a node
abbrev pub walks_from : List Walks → ℕ → Walks
walks_from known v = slice_index_or known v Unknown

-- the longest walks that are known are so long
abbrev pub AreRight : (ℕ → List ℕ) → List Walks → Type 0
AreRight below known = (v n : ℕ) → walks_from known v ≡ Longest n → IsHeight below v n

-- from each open node a walk of so many steps or more leads to v
abbrev pub LeadTo : (ℕ → List ℕ) → List Walks → ℕ → ℕ → Type 0
LeadTo below known few v = (u : ℕ) → walks_from known u ≡ Open → (n : ℕ) × (few ≤ n) × Leads below n u v

-- either there is a walk from v of more steps than these; or the longest has so many, what is known is
-- right, and no other node is open
abbrev pub IsWalked : (ℕ → List ℕ) → ℕ → ℕ → List Walks → List Walks → Option ℕ → Type 0
IsWalked below v most old new None = HasLevel below (suc most) v
IsWalked below v most old new (Some n) =
    IsHeight below v n × (n ≤ most) × AreRight below new × ((u : ℕ) → walks_from new u ≡ Open → walks_from old u ≡ Open)

use Rattle.trees.proofs.Common.{◌≡◌, ◌<◌, ◌≤◌, ◌+◌, ◌*◌, ℕ, Some, slice_get, edges_of, neighbors_of}
use Rattle.trees.specs.Levels.{HasLevel, AreRight, walks_from}
use Rattle.trees.specs.declared.levels.Walks.TheVariants.{Open}
use Rattle.trees.proofs.levels.+walk.Given as goal

abbrev pub decreases-longest_walk : goal.decreases-longest_walk
decreases-longest_walk l = 2 * l.most + 1

abbrev pub decreases-longest_below : goal.decreases-longest_below
decreases-longest_below l = 2 * l.most

-- there is a walk of so many steps, and none of more by way of the nodes so far
abbrev pub invariant-longest_below-loop-next : goal.invariant-longest_below-loop-next
invariant-longest_below-loop-next l =
    let below = neighbors_of (edges_of l.graph) in
    record {
      some : HasLevel below l.longest l.fn.node.0;
      no_more : (i : ℕ) (v : ℕ) → i < l.next-index → slice_get (below l.fn.node.0) i ≡ Some v → HasLevel below l.longest v → ⊥;
      few : l.longest ≤ l.most;
      right : AreRight below l.known.items;
      opened : (u : ℕ) → walks_from l.known.items u ≡ Open → walks_from l.fn.known.items u ≡ Open;
    }

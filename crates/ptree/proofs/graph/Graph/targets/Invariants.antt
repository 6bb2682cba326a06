use Rattle.std.proofs.Common.{◌≡◌, ◌≤◌, ℕ, List, [], ◌++◌, length, take}
use Rattle.ptree.specs.Graph.{weights_of, edges_of, neighbors_of}
use Rattle.ptree.specs.GraphLinks.{newest_from}
use Rattle.ptree.specs.Matched.{AreMatched}
use Rattle.ptree.proofs.graph.Graph.targets.Given as goal

-- what is made of the targets so far, and the targets that the edges up to this number give
abbrev pub invariant-loop-number : goal.invariant-loop-number
invariant-loop-number g l = record {
  made : (given : List ℕ) × AreMatched (λ (u : ℕ) y. g.F.Fn.post l.make (u, tt) y) given l.made.items × (given ++ neighbors_of (take l.number (edges_of l.self)) l.fn.a.0 ≡ neighbors_of (edges_of l.self) l.fn.a.0);
  newest : l.number ≡ newest_from (take l.number (edges_of l.self)) l.fn.a.0;
  no_node : length (weights_of l.self) ≤ l.fn.a.0 → (l.number ≡ 0) × (l.made.items ≡ []);
}

abbrev pub decreases-loop-number : goal.decreases-loop-number
decreases-loop-number g l = l.number

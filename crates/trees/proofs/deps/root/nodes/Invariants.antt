use Rattle.trees.specs.DependingParts.{labels_of, paths_of}
use Rattle.trees.proofs.Roots.{AreNodes}
use Rattle.trees.proofs.deps.root.nodes.Given as goal

-- the nodes so far
abbrev pub invariant-loop-i : goal.invariant-loop-i
invariant-loop-i l = AreNodes l.is_whole (labels_of l.network) (paths_of l.network) l.name l.i l.found.items

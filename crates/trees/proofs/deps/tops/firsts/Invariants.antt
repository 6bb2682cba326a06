use Rattle.std.proofs.Common.{length}
use Rattle.trees.specs.DependingParts.{labels_of}
use Rattle.trees.proofs.Tops.{FirstsOf}
use Rattle.trees.proofs.deps.tops.firsts.Given as goal

-- the first ones of the nodes so far
abbrev pub invariant-loop-node : goal.invariant-loop-node
invariant-loop-node l = FirstsOf l.network.sorted.keys (length (labels_of l.network)) l.nodes l.node-index l.firsts.items l.reached.items

use Rattle.trees.proofs.Common.{◌≡◌, true, [], map, string_bytes, take, edges_of, weights_of}
use Rattle.trees.specs.Shown.{shown_text, AreShownLabels}
use Rattle.trees.proofs.deps.network.graph.Given as goal

-- the labels so far are shown, and there are no edges
abbrev pub invariant-loop-label : goal.invariant-loop-label
invariant-loop-label l =
    (l.is_terminal ≡ true → AreShownLabels l.graph)
    × (map string_bytes (weights_of l.graph) ≡ map (shown_text l.is_terminal) (map string_bytes (take l.label-index l.network.labels.items)))
    × (edges_of l.graph ≡ [])

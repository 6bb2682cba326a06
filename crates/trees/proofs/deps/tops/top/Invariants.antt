use Rattle.std.proofs.Common.{◌≡◌, ◌++◌, [], ◌∷◌, length, map, take}
use Rattle.trees.specs.DependingParts.{labels_of, needs_of}
use Rattle.trees.proofs.deps.tops.top.Given as goal

-- a node with the label, and an edge to each of the first ones
abbrev pub invariant-loop-top : goal.invariant-loop-top
invariant-loop-top l =
    let n = length (labels_of l.fn.network) in
    (l.above.0 ≡ n)
    × (labels_of l.network ≡ labels_of l.fn.network ++ l.label ∷ [])
    × (needs_of l.network ≡ needs_of l.fn.network ++ map (λ t. (n, t)) (take l.top-index l.top-items))

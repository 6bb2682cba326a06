use Rattle.std.proofs.Common.{◌≡◌, ◌++◌, map, drop, suc}
use Rattle.ptree.specs.Growing.{place_at}
use Rattle.ptree.specs.Occurrence.{occurrence_at, occurrence_shape, size_below, trees_in}
use Rattle.ptree.proofs.graph.once.OccurrenceItemTreeItem.children.Given as goal

-- the items so far mean the first of the occurrences below, and the places that are left are the
-- others
abbrev pub invariant-loop-below : goal.invariant-loop-below
invariant-loop-below g l =
    let expanded = l.self.expanded.now in
    let places = expanded.occurrence.now.places.items in
    let shape = occurrence_shape g.N.Label.text expanded.graph.now expanded.mark.now in
    let size = (place_at places l.self.index).size in
    map (λ x. occurrence_shape g.N.Label.text x.expanded.now.graph.now x.expanded.now.mark.now (occurrence_at x.expanded.now.occurrence.now x.index)) l.items.items
    ++ map shape (trees_in l.left (drop l.index places)) ≡ map shape (trees_in (size_below size) (drop (suc l.self.index) places))

abbrev pub decreases-loop-below : goal.decreases-loop-below
decreases-loop-below g l = l.left

use Rattle.std.proofs.Common.{◌≡◌, [], ◌++◌, ◌<◌, ◌^◌, List, length, drop, map, ap, sym, ◌∙◌, subst, arith}
use Rattle.std.proofs.lemmas.List.{append-nil}
use Rattle.ptree.specs.Growing.{IsNextPlace, place_at}
use Rattle.ptree.specs.Occurrence.{OccurrenceTree, occurrence_at, occurrence_own, occurrence_shape, occurrence_kids, size_below, trees_in}
use Rattle.ptree.specs.Shape.{Shape}
use Rattle.ptree.specs.declared.graph.once.OccurrenceItem.{OccurrenceItem}
use Rattle.ptree.specs.declared.graph.places.Place.{Place}
use Rattle.ptree.proofs.Graphs.EdgeLists.{given_more}
use Rattle.ptree.proofs.Graphs.Places.{first_index, next_trees, kids_at_place}
use Rattle.ptree.proofs.Trees.Shapes.{kids_of_unfold}
use Rattle.ptree.proofs.graph.once.OccurrenceItemTreeItem.children.Goals as goal

pub loop-below-init : goal.loop-below-init
loop-below-init g c =
    let item = c.args.self.now in
    let expanded = item.expanded.now in
    let places = expanded.occurrence.now.places in
    let shape : OccurrenceTree → Shape = occurrence_shape g.N.Label.text expanded.graph.now expanded.mark.now in
    let short : length places.items < 2 ^ 64 = omega (arith, places.ok.0, places.ok.1, places.small) in
    ap (λ xs. map (λ (x : OccurrenceItem g.row.N.Denot). occurrence_shape g.N.Label.text x.expanded.now.graph.now x.expanded.now.mark.now (occurrence_at x.expanded.now.occurrence.now x.index)) xs ++ map shape (trees_in c.below-left.result (drop c.saturating_add-index.result places.items))) c.in_ok-items.ensures.items
    ∙ (ap (λ n. map shape (trees_in n (drop c.saturating_add-index.result places.items))) (c.below-left.ensures ∙ ap (λ (p : Place). size_below p.size) c.place.ensures)
    ∙ ap (λ l. map shape (trees_in (size_below (place_at places.items item.index).size) l)) (first_index places.items item.index c.saturating_add-index.result short c.saturating_add-index.ensures))

pub loop-below-preserved : goal.loop-below-preserved
loop-below-preserved g c =
    let item = c.args.self.now in
    let expanded = item.expanded.now in
    let places = expanded.occurrence.now.places in
    let shape : OccurrenceTree → Shape = occurrence_shape g.N.Label.text expanded.graph.now expanded.mark.now in
    let short : length places.items < 2 ^ 64 = omega (arith, places.ok.0, places.ok.1, places.small) in
    let next = subst (λ (ps : List Place). IsNextPlace ps c.loop-below.index c.loop-below.left c.in-Some.below) c.as_slice-places.ensures.value c.in-Some.ensures.some in
    given_more (λ (x : OccurrenceItem g.row.N.Denot). occurrence_shape g.N.Label.text x.expanded.now.graph.now x.expanded.now.mark.now (occurrence_at x.expanded.now.occurrence.now x.index))
    c.loop-below.items.items c.push.new.self.items _ (map shape (trees_in c.loop-below.left (drop c.loop-below.index places.items))) (map shape (trees_in c.saturating_sub-left.result (drop c.saturating_add-index-in-Some.result places.items))) _
    c.in_ok-push.ensures.items
    (ap (map shape) (next_trees places.items c.loop-below.index c.loop-below.left c.in-Some.below c.saturating_sub-left.result c.saturating_add.result c.saturating_add-index-in-Some.result short next
    (omega (arith, c.saturating_sub-left.ensures)) (omega (arith, c.saturating_add.ensures)) (omega (arith, c.saturating_add-index-in-Some.ensures))))
    c.loop-below.invariant

pub returns : goal.returns
returns g c =
    let item = c.args.self.now in
    let expanded = item.expanded.now in
    let places = expanded.occurrence.now.places in
    let shape : OccurrenceTree → Shape = occurrence_shape g.N.Label.text expanded.graph.now expanded.mark.now in
    let none : trees_in c.loop-below.left (drop c.loop-below.index places.items) ≡ [] = subst (λ (ps : List Place). trees_in c.loop-below.left (drop c.loop-below.index ps) ≡ []) c.as_slice-places.ensures.value c.in_default.ensures.none in
    sym (append-nil _) ∙ (ap (λ ts. map (λ (x : OccurrenceItem g.row.N.Denot). occurrence_shape g.N.Label.text x.expanded.now.graph.now x.expanded.now.mark.now (occurrence_at x.expanded.now.occurrence.now x.index)) c.loop-below.items.items ++ map shape ts) (sym none)
    ∙ (c.loop-below.invariant ∙ (ap (map shape) (sym (kids_at_place places.items item.index))
    ∙ kids_of_unfold (occurrence_own g.N.Label.text expanded.graph.now expanded.mark.now) occurrence_kids (occurrence_at expanded.occurrence.now item.index))))

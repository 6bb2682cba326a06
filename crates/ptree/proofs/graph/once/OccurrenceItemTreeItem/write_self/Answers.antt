use Rattle.std.specs.Prelude.{slice_get}
use Rattle.std.proofs.Common.{List, ℕ, ap, sym, ◌∙◌, subst}
use Rattle.ptree.specs.Graph.{weights_of}
use Rattle.ptree.specs.Growing.{place_at}
use Rattle.ptree.specs.Occurrence.{OccurrenceTree, is_repeated_size, occurrence_own, weight_own}
use Rattle.ptree.specs.Style.{style_of}
use Rattle.ptree.specs.Writing.{IsWritten}
use Rattle.ptree.specs.declared.graph.places.Place.{Place}
use Rattle.ptree.proofs.Graphs.Places.{tree_at_place}
use Rattle.ptree.proofs.graph.once.OccurrenceItemTreeItem.write_self.Goals as goal

pub returns-clause-bytes : goal.returns-clause-bytes
returns-clause-bytes g c =
    let item = c.args.self.now in
    let expanded = item.expanded.now in
    let graph = expanded.graph.now in
    let text = g.N.Label.text in
    let mark = expanded.mark.now in
    let style = style_of c.args.style.now in
    let places = expanded.occurrence.now.places.items in
    let at = ap (λ (p : Place). slice_get (weights_of graph) p.node.0) c.place-place.ensures in
    let own : OccurrenceTree → List ℕ = λ t. occurrence_own text graph mark t style in
    subst (λ (bytes : List ℕ). IsWritten (g.W.Sink.contents c.args.f.now) (g.W.Sink.contents c.write_weight.new.f) c.write_weight.result bytes)
    (ap (λ w. weight_own text mark c.is_repeated.result w style) (c.node_weight-weight.ensures ∙ at)
    ∙ ap (λ r. weight_own text mark r (slice_get (weights_of graph) (place_at places item.index).node.0) style) (c.is_repeated.ensures ∙ ap (λ (p : Place). is_repeated_size p.size) c.place-place.ensures)
    ∙ ap own (sym (tree_at_place places item.index))) c.write_weight.ensures.bytes

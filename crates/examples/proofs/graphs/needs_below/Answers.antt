use Rattle.std.proofs.Common.{List, ℕ, length, ap, sym, ◌∙◌}
use Rattle.std.specs.Prelude.{string_bytes}
use Rattle.std.proofs.lemmas.List.{length-map}
use Rattle.ptree.specs.declared.graph.once.OccurrenceItem.{OccurrenceItem}
use Rattle.ptree.specs.Children.{children_of}
use Rattle.ptree.specs.Occurrence.{OccurrenceTree, occurrence_at, occurrence_kids, occurrence_own, occurrence_shape}
use Rattle.ptree.specs.Shape.{Shape}
use Rattle.ptree.proofs.Trees.Shapes.{kids_of_unfold}
use Rattle.examples.specs.declared.graphs.Package.{Package}
use Rattle.examples.proofs.graphs.needs_below.Goals as goal

pub returns : goal.returns
returns c =
    let expanded = c.args.expanded.now in
    let name : Package → List ℕ = λ p. string_bytes p.name in
    let shape : OccurrenceItem Package → Shape = λ x. occurrence_shape name x.expanded.now.graph.now x.expanded.now.mark.now (occurrence_at x.expanded.now.occurrence.now x.index) in
    let shape_of : OccurrenceTree → Shape = occurrence_shape name expanded.graph.now expanded.mark.now in
    let below = occurrence_kids (occurrence_at expanded.occurrence.now c.args.index) in
    let kids = kids_of_unfold (occurrence_own name expanded.graph.now expanded.mark.now) occurrence_kids (occurrence_at expanded.occurrence.now c.args.index) in
    ap length c.as_slice.ensures ∙ (sym (length-map (children_of c.in_ok-below.below) shape) ∙ (ap length (c.in_ok-below.ensures ∙ sym kids) ∙ length-map below shape_of))

use Rattle.std.proofs.Common.{◌≡◌, length, sym, ap, ◌∙◌, arith}
use Rattle.ptree.specs.Occurrence.{occurrence_count, occurrence_tree}
use Rattle.examples.proofs.graphs.times_named.Goals as goal

pub returns : goal.returns
returns c = λ t h.
    let o = c.in_ok-expanded_once.field-0 in
    let (one, drawn, only) = c.in_ok-expanded_once.ensures.one_tree in
    let same : occurrence_tree o ≡ t = only (occurrence_tree o) c.in_ok-expanded_once.ensures.tree ∙ sym (only t h) in
    let count : length o.places.items ≡ occurrence_count (occurrence_tree o) = c.in_ok-expanded_once.ensures.count in
    let alike : occurrence_count (occurrence_tree o) ≡ occurrence_count t = ap occurrence_count same in
    omega (arith, c.len.ensures, o.places.ok.0)

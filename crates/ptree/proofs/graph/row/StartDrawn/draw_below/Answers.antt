use Rattle.std.specs.Io.KnownBytes.{Appends}
use Rattle.std.specs.List.{concat}
use Rattle.std.proofs.Common.{◌≡◌, ◌<◌, ◌≤◌, ◌-◌, ◌∙◌, arith, length, [], ap, sym, subst, take, inl, inr}
use Rattle.std.proofs.lemmas.Bool.{cases_lt}
use Rattle.std.proofs.lemmas.Grind.{common_steps}
use Rattle.std.proofs.KnownBytes.{Appends-nil}
use Rattle.std.proofs.lemmas.List.{append-nil}
use Rattle.ptree.specs.Entries.{entries_below, kid_entries}
use Rattle.ptree.specs.Graph.{weights_of, edges_of, neighbors_of}
use Rattle.ptree.specs.Growing.{flags_of, kids_grown}
use Rattle.ptree.specs.Looks.{look_of}
use Rattle.ptree.specs.Style.{start_codes}
use Rattle.ptree.proofs.Drawing.Engine.{all_below}
use Rattle.ptree.proofs.Graphs.AlongEdges.{drawn_from, kids_from, no_kids_from, shape_of}
use Rattle.ptree.proofs.Graphs.EdgeLists.{newest_starts}
use Rattle.ptree.proofs.graph.row.StartDrawn.draw_below.Goals as goal

pub returns-clause-bytes : goal.returns-clause-bytes
returns-clause-bytes g c =
    let look = look_of c.args.brush.now.look in
    let graph = c.args.self.now.marked.graph.now in
    let mark = c.args.self.now.marked.mark.now in
    let v = c.args.self.now.node.0 in
    all_below look (entries_below look (c.args.depth - 1)) [] (drawn_from g.N.Label.text graph mark c.args.depth v) _ _ _ _ (shape_of g.N.Label.text graph mark)
    (kids_grown (neighbors_of (edges_of graph)) (c.args.depth - 1) (flags_of graph c.new-seen.result.items) v)
    (kids_from g.N.Label.text graph mark c.args.depth v c.new-seen.result.items c.requires.some c.new-seen.ensures.items)
    (c.draw_row.ensures.bytes [] (c.requires.start ∙ sym (append-nil (start_codes look.branch))))

pub returns-then-newest-eq0-clause-bytes : goal.returns-then-newest-eq0-clause-bytes
returns-then-newest-eq0-clause-bytes g c =
    let look = look_of c.args.brush.now.look in
    let graph = c.args.self.now.marked.graph.now in
    let v = c.args.self.now.node.0 in
    let contents = g.W.Sink.contents c.args.f.now in
    let alone : neighbors_of (edges_of graph) v ≡ [] = sym (newest_starts (edges_of graph) v c.newest-newest.result c.newest-newest.ensures.newest).0 ∙ ap (λ k. neighbors_of (take k (edges_of graph)) v) c.if-newest-eq0.true in
    let none = no_kids_from g.N.Label.text graph c.args.self.now.marked.mark.now c.args.depth v c.requires.some alone in
    subst (λ ks. Appends contents contents (concat (kid_entries look (entries_below look (c.args.depth - 1)) [] ks))) (sym none) (Appends-nil contents)

pub draw_row-requires : goal.draw_row-requires
draw_row-requires g c =
    let graph = c.args.self.now.marked.graph.now in
    let v = c.args.self.now.node.0 in
    let within : v < length (weights_of graph) =
    elim (cases_lt v (length (weights_of graph))) [ inl x ↦ x | inr x ↦ absurd (c.if-newest-eq0.false (c.newest-newest.ensures.no_node x)) ] in
    let few : length c.new-seen.result.items ≤ length (weights_of graph) = omega (arith, ap length c.new-seen.ensures.items) in
    grind (arith, common_steps, within, few)

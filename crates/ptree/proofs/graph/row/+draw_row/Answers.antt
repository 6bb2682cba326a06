use Rattle.std.proofs.lemmas.List.{take_all, length-map}
use Rattle.std.proofs.lemmas.Bool.{false≢true}
use Rattle.std.proofs.lemmas.Grind.{common_steps}
use Rattle.std.proofs.Common.{Some, ◌≡◌, ◌++◌, ◌-◌, ◌∙◌, [], inl, inr, ap, sym, map, take, length, refl, arith, rules}
use Rattle.ptree.specs.Graph.{weights_of, edges_of, neighbors_of}
use Rattle.ptree.specs.GraphLinks.{ends_of}
use Rattle.ptree.specs.Growing.{flags_of, is_seen, grow, row_occurrences, row_seen, kids_grown}
use Rattle.ptree.specs.Line.{line_bytes}
use Rattle.ptree.specs.Looks.{look_of, own_text}
use Rattle.ptree.specs.Entries.{kid_entries, entries_below}
use Rattle.ptree.specs.Occurrence.{OccurrenceTree, occurrence_shape}
use Rattle.ptree.specs.Pieces.{passing_piece}
use Rattle.ptree.specs.Shape.{Shape}
use Rattle.ptree.specs.Writing.{AppendsPart}
use Rattle.ptree.proofs.Graphs.AlongEdges.{seen_below, own_drawn, leaf_drawn, expanded_written, all_begun, flags_after_ok}
use Rattle.ptree.proofs.Graphs.EdgeLists.{newest_starts, newest_within}
use Rattle.ptree.proofs.Drawing.Engine.{begun_none, begun_part, begun_then, begun_err, not_last, still_turned, long_enough, take_again, passes_on, memory_is_no_fault}
use Rattle.ptree.proofs.Graphs.Growth.{stopped, without, seen_made}
use Rattle.ptree.proofs.Graphs.Links.{node_at, target_at, linked-step}
use Rattle.ptree.proofs.Graphs.NodeFlags.{flag_read}
use Rattle.ptree.proofs.Graphs.Rows.{row_starts, row_next}
use Rattle.ptree.proofs.Sinks.Written.{entries_none, entries_err, entry_part}
use Rattle.ptree.proofs.graph.row.+draw_row.Goals as goal
use Rattle.ptree.proofs.graph.row.+draw_row.Goals.{draw_node-then-repeated-via-then-repeated, draw_node-then-repeated-via-else-repeated+then-levels_left-eq0}

pub draw_row-returns-in_err-set_flag-clause-bytes : goal.draw_row-returns-in_err-set_flag-clause-bytes
draw_row-returns-in_err-set_flag-clause-bytes g t c = λ outer e.
    let look = look_of c.args.brush.now.look in
    let graph = c.args.marked.now.graph.now in
    entries_err _ _ _ _ _ _ c.from_residual.ensures.1
    (entries_none _ c.args.pen.now.error (kid_entries look (entries_below look c.args.levels_left) outer (map (occurrence_shape g.N.Label.text graph c.args.marked.now.mark.now) (kids_grown (neighbors_of (edges_of graph)) c.args.levels_left (flags_of graph c.args.seen.now.items) c.args.node.0))))

pub draw_row-loop-number-init : goal.draw_row-loop-number-init
draw_row-loop-number-init g t c =
    let wide : c.len-width.result ≡ length (line_bytes c.args.pen.now.line) = c.len-width.ensures in
    let look = look_of c.args.brush.now.look in
    let graph = c.args.marked.now.graph.now in
    let set = c.in_ok-set_flag.ensures.flags (length (weights_of graph)) c.requires.node c.requires.length in
    let (all, seen, newest) = row_starts graph c.args.levels_left c.args.node.0 c.args.newest (flags_of graph c.args.seen.now.items) (flags_of graph c.set_flag.new.seen.items) c.requires.newest c.requires.some set.0 in
    record {
      begun = λ outer e. begun_none look (entries_below look c.args.levels_left) outer _ _ _ (ap (map (occurrence_shape g.N.Label.text graph c.args.marked.now.mark.now)) (sym all));
      no_fault = refl;
      error = c.requires.error;
      kept = take_all c.len-width.result _ (omega (arith, wide));
      turned = λ held. absurd (false≢true (sym c.requires.turned ∙ held));
      seen = seen;
      length = set.1;
      newest = newest;
    }

pub draw_row-index-edge-requires : goal.draw_row-index-edge-requires
draw_row-index-edge-requires g t c =
    omega (arith, newest_within (edges_of c.args.marked.now.graph.now) c.args.node.0 c.loop-number.number c.loop-number.invariant.newest, length-map c.args.marked.now.graph.now.edges.items ends_of)

pub draw_row-loop-number-smaller : goal.draw_row-loop-number-smaller
draw_row-loop-number-smaller g t c =
    (linked-step _ _ c.args.node.0 c.loop-number.number c.index-edge.result.now c.args.marked.now.graph.now.linked (omega arith) c.loop-number.invariant.newest c.index-edge.ensures).2

pub draw_row-returns-in_err-turn-clause-bytes : goal.draw_row-returns-in_err-turn-clause-bytes
draw_row-returns-in_err-turn-clause-bytes g t c = λ outer e.
    let look = look_of c.args.brush.now.look in
    entries_err _ _ _ _ _ _ c.from_residual-in_err-turn.ensures.1 (begun_part look (entries_below look c.args.levels_left) outer _ _ _ _ c.turn.new.self.error (c.loop-number.invariant.begun outer e))

pub draw_row-turn-requires : goal.draw_row-turn-requires
draw_row-turn-requires g t c =
    record { width = long_enough _ _ _ c.loop-number.invariant.kept c.len-width.ensures; turned = λ held last. c.loop-number.invariant.turned held (omega arith) }

pub draw_row-cut-requires : goal.draw_row-cut-requires
draw_row-cut-requires g t c = long_enough _ _ _ c.loop-number.invariant.kept c.len-width.ensures

pub draw_row-draw_node-requires : goal.draw_row-draw_node-requires
draw_row-draw_node-requires g t c =
    let target = target_at c.args.marked.now.graph.now c.args.node.0 c.loop-number.number c.index-edge.result.now (omega arith) c.loop-number.invariant.newest c.index-edge.ensures in
    grind (arith, common_steps, target)

pub draw_row-returns-in_err-draw_node-clause-bytes : goal.draw_row-returns-in_err-draw_node-clause-bytes
draw_row-returns-in_err-draw_node-clause-bytes g t c = λ outer e.
    let look = look_of c.args.brush.now.look in
    let graph = c.args.marked.now.graph.now in
    let last = flags_of graph c.loop-number.seen.items in
    let edge = c.index-edge.result.now in
    let inv = c.loop-number.invariant in
    let next = row_next graph c.args.levels_left c.args.node.0 c.loop-number.number edge last (grow (neighbors_of (edges_of graph)) c.args.levels_left last edge.target).seen (omega arith) inv.newest c.index-edge.ensures refl in
    let kept = take_again c.len-width.result (line_bytes c.loop-number.pen.line) _ _ (long_enough _ _ _ inv.kept c.len-width.ensures) c.in_ok-turn.ensures.line ∙ inv.kept in
    entries_err _ _ _ _ _ _ c.from_residual-in_err-draw_node.ensures.1
    (begun_err (occurrence_shape g.N.Label.text graph c.args.marked.now.mark.now) look (entries_below look c.args.levels_left) outer _ _ _ _ c.is_oldest-is_last.result _ _ _ _ next.0 (c.is_oldest-is_last.ensures ∙ next.3) (inv.begun outer e) (c.in_err-draw_node.ensures.bytes outer (kept ∙ e)))

pub draw_row-loop-number-preserved : goal.draw_row-loop-number-preserved
draw_row-loop-number-preserved g t c =
    let look = look_of c.args.brush.now.look in
    let graph = c.args.marked.now.graph.now in
    let inv = c.loop-number.invariant in
    let next = row_next graph c.args.levels_left c.args.node.0 c.loop-number.number c.index-edge.result.now (flags_of graph c.loop-number.seen.items) (flags_of graph c.draw_node.new.seen.items) (omega arith) inv.newest c.index-edge.ensures c.in_ok-draw_node.ensures.seen in
    let kept = take_again c.len-width.result (line_bytes c.loop-number.pen.line) _ _ (long_enough _ _ _ inv.kept c.len-width.ensures) c.in_ok-turn.ensures.line in
    record {
      begun = λ outer e. begun_then (occurrence_shape g.N.Label.text graph c.args.marked.now.mark.now) look (entries_below look c.args.levels_left) outer _ _ _ _ c.is_oldest-is_last.result _ _ _ next.0 (c.is_oldest-is_last.ensures ∙ next.3) (inv.begun outer e) (c.in_ok-draw_node.ensures.bytes outer (kept ∙ inv.kept ∙ e));
      no_fault = memory_is_no_fault _ _ c.draw_node.new.pen.error c.in_ok-draw_node.ensures.cause c.in_ok-draw_node.ensures.error ∙ inv.no_fault;
      error = c.in_ok-draw_node.ensures.error;
      kept = c.in_ok-draw_node.ensures.kept ∙ kept ∙ inv.kept;
      turned = λ held some. still_turned c.len-width.result (line_bytes c.loop-number.pen.line) _ _ (λ b. own_text look (Some b)) c.is_oldest-is_last.result c.in_ok-turn.ensures.line (not_last _ _ c.is_oldest-is_last.ensures some) kept (c.in_ok-draw_node.ensures.turned held);
      seen = next.1 ∙ inv.seen;
      length = c.in_ok-draw_node.ensures.length;
      newest = next.2;
    }

pub draw_row-returns-clause-bytes : goal.draw_row-returns-clause-bytes
draw_row-returns-clause-bytes g t c = λ outer e.
    let look = look_of c.args.brush.now.look in
    let graph = c.args.marked.now.graph.now in
    let ended : c.loop-number.number ≡ 0 = omega (arith, c.loop-number-test.false) in
    let none = ap (λ k. map (occurrence_shape g.N.Label.text graph c.args.marked.now.mark.now) (row_occurrences (grow (neighbors_of (edges_of graph)) c.args.levels_left) (flags_of graph c.loop-number.seen.items) (neighbors_of (take k (edges_of graph)) c.args.node.0))) ended in
    all_begun look (entries_below look c.args.levels_left) outer _ _ _ _ none (c.loop-number.invariant.begun outer e)

pub draw_row-returns-clause-seen : goal.draw_row-returns-clause-seen
draw_row-returns-clause-seen g t c =
    let graph = c.args.marked.now.graph.now in
    let ended : c.loop-number.number ≡ 0 = omega (arith, c.loop-number-test.false) in
    ap (λ k. row_seen (grow (neighbors_of (edges_of graph)) c.args.levels_left) (flags_of graph c.loop-number.seen.items) (neighbors_of (take k (edges_of graph)) c.args.node.0)) (sym ended) ∙ c.loop-number.invariant.seen

pub draw_node-returns-in_err-draw_entry-clause-bytes : goal.draw_node-returns-in_err-draw_entry-clause-bytes
draw_node-returns-in_err-draw_entry-clause-bytes g t c = λ outer e.
    let look = look_of c.args.brush.now.look in
    let graph = c.args.marked.now.graph.now in
    let v = c.args.node.0 in
    let tree = (grow (neighbors_of (edges_of graph)) c.args.levels_left (flags_of graph c.args.seen.now.items) v).occurrence in
    entries_err _ _ _ _ _ _ c.from_residual.ensures.1
    (entry_part _ _ _ _ (entries_below look c.args.levels_left (outer ++ passing_piece look.pieces c.args.is_last) (occurrence_shape g.N.Label.text graph c.args.marked.now.mark.now tree)) (own_drawn g.N.Label.text graph c.args.marked.now.mark.now (λ z. AppendsPart (g.W.Sink.contents c.args.f.now) (g.W.Sink.contents c.draw_entry.new.f) z) look outer (Some c.args.is_last) c.args.levels_left c.args.seen.now.items v _ _ (c.in_err-draw_entry.ensures.bytes outer e) (node_at graph v c.index-record.result.now c.requires.node c.index-record.ensures).0 (c.is_flagged-repeated.ensures ∙ ap (λ l. is_seen l v) c.deref.ensures.value)) c.in_err-draw_entry.ensures.memory)

pub draw_node-returns-in_err-pass-clause-bytes : goal.draw_node-returns-in_err-pass-clause-bytes
draw_node-returns-in_err-pass-clause-bytes g t c = λ outer e.
    let look = look_of c.args.brush.now.look in
    let graph = c.args.marked.now.graph.now in
    let v = c.args.node.0 in
    let shape : OccurrenceTree → Shape = occurrence_shape g.N.Label.text graph c.args.marked.now.mark.now in
    let below = kid_entries look (entries_below look (c.args.levels_left - 1)) (outer ++ passing_piece look.pieces c.args.is_last) (map shape (kids_grown (neighbors_of (edges_of graph)) (c.args.levels_left - 1) (flags_of graph c.args.seen.now.items) v)) in
    expanded_written g.N.Label.text graph c.args.marked.now.mark.now _ _ _ _ _ look outer c.args.is_last c.args.levels_left c.args.seen.now.items v _ _ (λ z. c.if-levels_left-eq0.false z) c.if-repeated.false
    (node_at graph v c.index-record.result.now c.requires.node c.index-record.ensures).0 (c.is_flagged-repeated.ensures ∙ ap (λ l. is_seen l v) c.deref.ensures.value) (c.in_ok-draw_entry.ensures.bytes outer e)
    (entries_err _ _ _ _ _ _ c.from_residual-in_err-pass.ensures.1 (entries_none _ c.pass.new.self.error below))

pub draw_node-returns-clause-bytes : goal.draw_node-returns-clause-bytes
draw_node-returns-clause-bytes g t c = λ outer e.
    let look = look_of c.args.brush.now.look in
    let graph = c.args.marked.now.graph.now in
    let v = c.args.node.0 in
    expanded_written g.N.Label.text graph c.args.marked.now.mark.now _ _ _ _ _ look outer c.args.is_last c.args.levels_left c.args.seen.now.items v _ _ (λ z. c.if-levels_left-eq0.false z) c.if-repeated.false
    (node_at graph v c.index-record.result.now c.requires.node c.index-record.ensures).0 (c.is_flagged-repeated.ensures ∙ ap (λ l. is_seen l v) c.deref.ensures.value) (c.in_ok-draw_entry.ensures.bytes outer e)
    (c.draw_row.ensures.bytes (outer ++ passing_piece look.pieces c.args.is_last) (passes_on c.args.width _ _ _ _ outer _ c.in_ok-draw_entry.ensures.kept c.in_ok-pass.ensures.line e))

pub draw_node-returns-clause-seen : goal.draw_node-returns-clause-seen
draw_node-returns-clause-seen g t c = flags_after_ok _ _ _ c.draw_row.result (sym (seen_below (neighbors_of (edges_of c.args.marked.now.graph.now)) c.args.levels_left (flags_of c.args.marked.now.graph.now c.args.seen.now.items) c.args.node.0 c.if-levels_left-eq0.false
    (sym (flag_read (length (weights_of c.args.marked.now.graph.now)) c.args.seen.now.items _ c.args.node.0 _ c.is_flagged-repeated.ensures c.deref.ensures.value) ∙ c.if-repeated.false))) (search rules)

pub draw_node-returns-then-repeated-clause-bytes : goal.draw_node-returns-then-repeated-clause-bytes
draw_node-returns-then-repeated-clause-bytes g t c = λ outer e.
    let graph = c.args.marked.now.graph.now in
    let v = c.args.node.0 in
    let seen = flags_of graph c.args.seen.now.items in
    let flag : c.is_flagged-repeated.result ≡ is_seen seen v = flag_read (length (weights_of graph)) c.args.seen.now.items _ v _ c.is_flagged-repeated.ensures c.deref.ensures.value in
    let stop = stopped (neighbors_of (edges_of graph)) c.args.levels_left seen v
    (elim c.then-repeated.branch [ draw_node-then-repeated-via-then-repeated w ↦ inl (sym flag ∙ w.if-repeated.true) | draw_node-then-repeated-via-else-repeated+then-levels_left-eq0 w ↦ inr w.if-levels_left-eq0.true ]) in
    leaf_drawn g.N.Label.text graph c.args.marked.now.mark.now _ _ (look_of c.args.brush.now.look) outer c.args.is_last c.args.levels_left c.args.seen.now.items v _ _ _ _ stop
    (node_at graph v c.index-record.result.now c.requires.node c.index-record.ensures).0 (c.is_flagged-repeated.ensures ∙ ap (λ l. is_seen l v) c.deref.ensures.value) (c.in_ok-draw_entry.ensures.bytes outer e)

pub draw_node-returns-then-repeated-clause-seen : goal.draw_node-returns-then-repeated-clause-seen
draw_node-returns-then-repeated-clause-seen g t c =
    let graph = c.args.marked.now.graph.now in
    let v = c.args.node.0 in
    let seen = flags_of graph c.args.seen.now.items in
    let flag : c.is_flagged-repeated.result ≡ is_seen seen v = flag_read (length (weights_of graph)) c.args.seen.now.items _ v _ c.is_flagged-repeated.ensures c.deref.ensures.value in
    seen_made _ _ seen _ (stopped (neighbors_of (edges_of graph)) c.args.levels_left seen v
    (elim c.then-repeated.branch [ draw_node-then-repeated-via-then-repeated w ↦ inl (sym flag ∙ w.if-repeated.true) | draw_node-then-repeated-via-else-repeated+then-levels_left-eq0 w ↦ inr w.if-levels_left-eq0.true ])) (search rules)

pub draw_node-returns-then-newest-eq0-clause-bytes : goal.draw_node-returns-then-newest-eq0-clause-bytes
draw_node-returns-then-newest-eq0-clause-bytes g t c = λ outer e.
    let graph = c.args.marked.now.graph.now in
    let below = neighbors_of (edges_of graph) in
    let v = c.args.node.0 in
    let seen = flags_of graph c.args.seen.now.items in
    let flag : c.is_flagged-repeated.result ≡ is_seen seen v = flag_read (length (weights_of graph)) c.args.seen.now.items _ v _ c.is_flagged-repeated.ensures c.deref.ensures.value in
    let node = node_at graph v c.index-record.result.now c.requires.node c.index-record.ensures in
    let none : below v ≡ [] = sym (newest_starts (edges_of graph) v c.index-record.result.now.newest node.1).0 ∙ ap (λ k. neighbors_of (take k (edges_of graph)) v) c.if-newest-eq0.true in
    leaf_drawn g.N.Label.text graph c.args.marked.now.mark.now _ _ (look_of c.args.brush.now.look) outer c.args.is_last c.args.levels_left c.args.seen.now.items v _ _ _ _
    (without below c.args.levels_left seen v c.if-levels_left-eq0.false (sym flag ∙ c.if-repeated.false) none) node.0 (c.is_flagged-repeated.ensures ∙ ap (λ l. is_seen l v) c.deref.ensures.value) (c.in_ok-draw_entry.ensures.bytes outer e)

pub draw_node-returns-then-newest-eq0-clause-seen : goal.draw_node-returns-then-newest-eq0-clause-seen
draw_node-returns-then-newest-eq0-clause-seen g t c =
    let graph = c.args.marked.now.graph.now in
    let v = c.args.node.0 in
    let seen = flags_of graph c.args.seen.now.items in
    let flag : c.is_flagged-repeated.result ≡ is_seen seen v = flag_read (length (weights_of graph)) c.args.seen.now.items _ v _ c.is_flagged-repeated.ensures c.deref.ensures.value in
    let node = node_at graph v c.index-record.result.now c.requires.node c.index-record.ensures in
    let none : neighbors_of (edges_of graph) v ≡ [] = sym (newest_starts (edges_of graph) v c.index-record.result.now.newest node.1).0 ∙ ap (λ k. neighbors_of (take k (edges_of graph)) v) c.if-newest-eq0.true in
    seen_made _ _ seen _ (without (neighbors_of (edges_of graph)) c.args.levels_left seen v c.if-levels_left-eq0.false (sym flag ∙ c.if-repeated.false) none) (search rules)

pub draw_node-index-record-requires : goal.draw_node-index-record-requires
draw_node-index-record-requires g t c = omega (arith, c.requires.node, length-map c.args.marked.now.graph.now.nodes.items (λ n. n.weight))

pub draw_node-draw_row-requires : goal.draw_node-draw_row-requires
draw_node-draw_row-requires g t c =
    grind (arith, common_steps, (node_at c.args.marked.now.graph.now c.args.node.0 c.index-record.result.now c.requires.node c.index-record.ensures).1)

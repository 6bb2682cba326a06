use Rattle.std.proofs.lemmas.List.{take_all}
use Rattle.std.proofs.lemmas.Bool.{false≢true}
use Rattle.std.proofs.Common.{Some, ◌≡◌, ◌++◌, ◌-◌, ◌∙◌, ap, sym, map, length, refl, arith}
use Rattle.ptree.specs.Data.{value_pairs, pair_own, pair_below, pair_shape}
use Rattle.ptree.specs.Line.{line_bytes}
use Rattle.ptree.specs.Looks.{look_of, own_text}
use Rattle.ptree.specs.Entries.{entries_below}
use Rattle.ptree.specs.Parts.{part_of, node_pair_of}
use Rattle.ptree.specs.Pieces.{passing_piece}
use Rattle.ptree.proofs.Drawing.Engine.{item_written, item_alone, alone_written, none_under, all_below, begun_none, begun_part, begun_then, begun_err, not_last, still_turned, long_enough, take_again, passes_on, memory_is_no_fault}
use Rattle.ptree.proofs.Sinks.Written.{entries_err, entry_part}
use Rattle.ptree.proofs.Trees.Shapes.{kids_of_unfold}
use Rattle.ptree.proofs.Values.ValuePairs.{value_pairs-of_others}
use Rattle.ptree.proofs.value.row.+draw_row.Goals as goal
use Rattle.ptree.proofs.value.row.+draw_row.Goals.{draw_node-then-levels_left-eq0-via-then-levels_left-eq0, draw_node-then-levels_left-eq0-via-else-levels_left-eq0+then-not-is_list}

pub draw_row-loop-node-init : goal.draw_row-loop-node-init
draw_row-loop-node-init g t c =
    let wide : c.len-width.result ≡ length (line_bytes c.args.pen.now.line) = c.len-width.ensures in
    let look = look_of c.args.brush.now.look in
    record {
      begun = λ outer e. begun_none look (entries_below look c.args.levels_left) outer _ _ _ (ap (map pair_shape) (sym c.of-row.ensures));
      no_fault = refl;
      error = c.requires.error;
      kept = take_all c.len-width.result _ (omega (arith, wide));
      turned = λ held. absurd (false≢true (sym c.requires.turned ∙ held));
    }

pub draw_row-returns-in_err-turn-clause-bytes : goal.draw_row-returns-in_err-turn-clause-bytes
draw_row-returns-in_err-turn-clause-bytes g t c = λ outer e.
    let look = look_of c.args.brush.now.look in
    entries_err _ _ _ _ _ _ c.from_residual.ensures.1 (begun_part look (entries_below look c.args.levels_left) outer _ _ _ _ c.turn.new.self.error (c.loop-node.invariant.begun outer e))

pub draw_row-turn-requires : goal.draw_row-turn-requires
draw_row-turn-requires g t c = record {
  width = long_enough _ _ _ c.loop-node.invariant.kept c.len-width.ensures;
  turned = λ held last. c.loop-node.invariant.turned held (omega (arith, ap length c.in-Some.ensures));
}

pub draw_row-cut-requires : goal.draw_row-cut-requires
draw_row-cut-requires g t c = long_enough _ _ _ c.loop-node.invariant.kept c.len-width.ensures

pub draw_row-returns-in_err-draw_node-clause-bytes : goal.draw_row-returns-in_err-draw_node-clause-bytes
draw_row-returns-in_err-draw_node-clause-bytes g t c = λ outer e.
    let look = look_of c.args.brush.now.look in
    let inv = c.loop-node.invariant in
    let kept = take_again c.len-width.result (line_bytes c.loop-node.pen.line) _ _ (long_enough _ _ _ inv.kept c.len-width.ensures) c.in_ok-turn.ensures.line ∙ inv.kept in
    entries_err _ _ _ _ _ _ c.from_residual-in_err-draw_node.ensures.1
    (begun_err pair_shape look (entries_below look c.args.levels_left) outer _ _ _ _ c.is_empty-is_last.result _ _ _ _ c.in-Some.ensures c.is_empty-is_last.ensures (inv.begun outer e) (c.in_err-draw_node.ensures.bytes outer (kept ∙ e)))

pub draw_row-loop-node-preserved : goal.draw_row-loop-node-preserved
draw_row-loop-node-preserved g t c =
    let look = look_of c.args.brush.now.look in
    let inv = c.loop-node.invariant in
    let kept = take_again c.len-width.result (line_bytes c.loop-node.pen.line) _ _ (long_enough _ _ _ inv.kept c.len-width.ensures) c.in_ok-turn.ensures.line in
    record {
      begun = λ outer e. begun_then pair_shape look (entries_below look c.args.levels_left) outer _ _ _ _ c.is_empty-is_last.result _ _ _ c.in-Some.ensures c.is_empty-is_last.ensures (inv.begun outer e) (c.in_ok-draw_node.ensures.bytes outer (kept ∙ inv.kept ∙ e));
      no_fault = memory_is_no_fault _ _ c.draw_node.new.pen.error c.in_ok-draw_node.ensures.cause c.in_ok-draw_node.ensures.error ∙ inv.no_fault;
      error = c.in_ok-draw_node.ensures.error;
      kept = c.in_ok-draw_node.ensures.kept ∙ kept ∙ inv.kept;
      turned = λ held some. still_turned c.len-width.result (line_bytes c.loop-node.pen.line) _ _ (λ last. own_text look (Some last)) c.is_empty-is_last.result c.in_ok-turn.ensures.line (not_last _ _ c.is_empty-is_last.ensures some) kept (c.in_ok-draw_node.ensures.turned held);
    }

pub draw_node-returns-in_err-draw_entry-clause-bytes : goal.draw_node-returns-in_err-draw_entry-clause-bytes
draw_node-returns-in_err-draw_entry-clause-bytes g t c = λ outer e.
    let look = look_of c.args.brush.now.look in
    entries_err _ _ _ _ _ _ c.from_residual.ensures.1
    (entry_part _ _ _ _ (entries_below look c.args.levels_left (outer ++ passing_piece look.pieces c.args.is_last) (pair_shape (node_pair_of c.args.node.now))) (c.in_err-draw_entry.ensures.bytes outer e) c.in_err-draw_entry.ensures.memory)

pub draw_node-returns-in_err-pass-clause-bytes : goal.draw_node-returns-in_err-pass-clause-bytes
draw_node-returns-in_err-pass-clause-bytes g t c = λ outer e.
    item_alone (look_of c.args.brush.now.look) c.args.levels_left outer c.args.is_last (pair_shape (node_pair_of c.args.node.now)) _ _ _ _ c.pass.new.self.error (λ z. c.if-levels_left-eq0.false z) (c.in_ok-draw_entry.ensures.bytes outer e) c.from_residual-in_err-pass.ensures.1

pub draw_node-returns-then-levels_left-eq0-clause-bytes : goal.draw_node-returns-then-levels_left-eq0-clause-bytes
draw_node-returns-then-levels_left-eq0-clause-bytes g t c = λ outer e.
    let look = look_of c.args.brush.now.look in
    let pair = node_pair_of c.args.node.now in
    let passing = outer ++ passing_piece look.pieces c.args.is_last in
    alone_written _ _ _ (entries_below look c.args.levels_left passing (pair_shape pair))
    (elim c.then-levels_left-eq0.branch [
      | draw_node-then-levels_left-eq0-via-then-levels_left-eq0 w ↦ ap (λ k. entries_below look k passing (pair_shape pair)) w.if-levels_left-eq0.true
      | draw_node-then-levels_left-eq0-via-else-levels_left-eq0+then-not-is_list w ↦ none_under look c.args.levels_left passing (pair_shape pair)
          (sym (kids_of_unfold pair_own pair_below pair) ∙ ap (map pair_shape) (sym c.part-part.ensures ∙ value_pairs-of_others _ (sym w.is_list.ensures ∙ w.if-not-is_list.true)))
    ])
    (c.in_ok-draw_entry.ensures.bytes outer e)

pub draw_node-returns-clause-bytes : goal.draw_node-returns-clause-bytes
draw_node-returns-clause-bytes g t c = λ outer e.
    let look = look_of c.args.brush.now.look in
    let pair = node_pair_of c.args.node.now in
    let passing = outer ++ passing_piece look.pieces c.args.is_last in
    item_written look c.args.levels_left outer c.args.is_last (pair_shape pair) _ _ _ _ _ (λ z. c.if-levels_left-eq0.false z)
    (c.in_ok-draw_entry.ensures.bytes outer e)
    (all_below look (entries_below look (c.args.levels_left - 1)) passing (pair_shape pair) _ _ _ _ pair_shape (value_pairs (part_of c.part-part.result.now))
    (ap (map pair_shape) c.part-part.ensures ∙ kids_of_unfold pair_own pair_below pair)
    (c.draw_row.ensures.bytes passing (passes_on c.args.width _ _ _ _ outer _ c.in_ok-draw_entry.ensures.kept c.in_ok-pass.ensures.line e)))

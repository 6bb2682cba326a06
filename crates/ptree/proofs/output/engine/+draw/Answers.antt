use Rattle.std.proofs.lemmas.List.{take_all}
use Rattle.std.proofs.lemmas.Bool.{false≢true}
use Rattle.std.proofs.Common.{Some, ◌≡◌, ◌++◌, ◌-◌, ◌∙◌, ap, sym, map, length, refl, arith}
use Rattle.ptree.specs.Line.{line_bytes}
use Rattle.ptree.specs.Looks.{look_of, own_text}
use Rattle.ptree.specs.Entries.{entries_below}
use Rattle.ptree.specs.Pieces.{passing_piece}
use Rattle.ptree.proofs.Drawing.Engine.{item_written, item_alone, none_below, leaf_written, all_below, begun_none, begun_part, begun_then, begun_err, not_last, still_turned, long_enough, take_again, passes_on, memory_is_no_fault}
use Rattle.ptree.proofs.Sinks.Written.{entries_err, entry_part}
use Rattle.ptree.proofs.output.engine.+draw.Goals as goal

pub draw_children-loop-item-init : goal.draw_children-loop-item-init
draw_children-loop-item-init g t c =
    let wide : c.len-width.result ≡ length (line_bytes c.args.pen.now.line) = c.len-width.ensures in
    record {
      begun = λ outer e. begun_none (look_of c.args.brush.now.look) (entries_below (look_of c.args.brush.now.look) c.args.levels_left) outer _ _ _ refl;
      no_fault = refl;
      error = c.requires.error;
      kept = take_all c.len-width.result _ (omega (arith, wide));
      turned = λ held. absurd (false≢true (sym c.requires.turned ∙ held));
    }

pub draw_children-returns-in_err-turn-clause-bytes : goal.draw_children-returns-in_err-turn-clause-bytes
draw_children-returns-in_err-turn-clause-bytes g t c = λ outer e.
    let look = look_of c.args.brush.now.look in
    entries_err _ _ _ _ _ _ c.from_residual.ensures.1 (begun_part look (entries_below look c.args.levels_left) outer _ _ _ _ c.turn.new.self.error (c.loop-item.invariant.begun outer e))

pub draw_children-turn-requires : goal.draw_children-turn-requires
draw_children-turn-requires g t c = record {
  width = long_enough _ _ _ c.loop-item.invariant.kept c.len-width.ensures;
  turned = λ held last. c.loop-item.invariant.turned held (omega (arith, c.in-Some.ensures.cases.1));
}

pub draw_children-cut-requires : goal.draw_children-cut-requires
draw_children-cut-requires g t c = long_enough _ _ _ c.loop-item.invariant.kept c.len-width.ensures

pub draw_children-returns-in_err-draw_item-clause-bytes : goal.draw_children-returns-in_err-draw_item-clause-bytes
draw_children-returns-in_err-draw_item-clause-bytes g t c = λ outer e.
    let look = look_of c.args.brush.now.look in
    let inv = c.loop-item.invariant in
    let kept = take_again c.len-width.result (line_bytes c.loop-item.pen.line) _ _ (long_enough _ _ _ inv.kept c.len-width.ensures) c.in_ok-turn.ensures.line ∙ inv.kept in
    entries_err _ _ _ _ _ _ c.from_residual-in_err-draw_item.ensures.1
    (begun_err g.C.Shaped.shape look (entries_below look c.args.levels_left) outer _ _ _ _ c.is_empty-is_last.result _ _ _ _ c.in-Some.ensures.cases.0 c.is_empty-is_last.ensures (inv.begun outer e) (c.in_err-draw_item.ensures.bytes outer (kept ∙ e)))

pub draw_children-loop-item-preserved : goal.draw_children-loop-item-preserved
draw_children-loop-item-preserved g t c =
    let look = look_of c.args.brush.now.look in
    let inv = c.loop-item.invariant in
    let kept = take_again c.len-width.result (line_bytes c.loop-item.pen.line) _ _ (long_enough _ _ _ inv.kept c.len-width.ensures) c.in_ok-turn.ensures.line in
    record {
      begun = λ outer e. begun_then g.C.Shaped.shape look (entries_below look c.args.levels_left) outer _ _ _ _ c.is_empty-is_last.result _ _ _ c.in-Some.ensures.cases.0 c.is_empty-is_last.ensures (inv.begun outer e) (c.in_ok-draw_item.ensures.bytes outer (kept ∙ inv.kept ∙ e));
      no_fault = memory_is_no_fault _ _ c.draw_item.new.pen.error c.in_ok-draw_item.ensures.cause c.in_ok-draw_item.ensures.error ∙ inv.no_fault;
      error = c.in_ok-draw_item.ensures.error;
      kept = c.in_ok-draw_item.ensures.kept ∙ kept ∙ inv.kept;
      turned = λ held some. still_turned c.len-width.result (line_bytes c.loop-item.pen.line) _ _ (λ last. own_text look (Some last)) c.is_empty-is_last.result c.in_ok-turn.ensures.line (not_last _ _ c.is_empty-is_last.ensures some) kept (c.in_ok-draw_item.ensures.turned held);
    }

pub draw_item-returns-in_err-draw_entry-clause-bytes : goal.draw_item-returns-in_err-draw_entry-clause-bytes
draw_item-returns-in_err-draw_entry-clause-bytes g t c = λ outer e.
    let look = look_of c.args.brush.now.look in
    entries_err _ _ _ _ _ _ c.from_residual.ensures.1
    (entry_part _ _ _ _ (entries_below look c.args.levels_left (outer ++ passing_piece look.pieces c.args.is_last) (g.C.Shaped.shape c.args.item.now)) (c.in_err-draw_entry.ensures.bytes outer e) c.in_err-draw_entry.ensures.memory)

pub draw_item-returns-in_err-children-clause-bytes : goal.draw_item-returns-in_err-children-clause-bytes
draw_item-returns-in_err-children-clause-bytes g t c = λ outer e.
    item_alone (look_of c.args.brush.now.look) c.args.levels_left outer c.args.is_last (g.C.Shaped.shape c.args.item.now) _ _ _ _ c.draw_entry.new.pen.error (λ z. c.if-levels_left-eq0.false z) (c.in_ok-draw_entry.ensures.bytes outer e) c.from_residual-in_err-children.ensures.1

pub draw_item-returns-in_err-pass-clause-bytes : goal.draw_item-returns-in_err-pass-clause-bytes
draw_item-returns-in_err-pass-clause-bytes g t c = λ outer e.
    item_alone (look_of c.args.brush.now.look) c.args.levels_left outer c.args.is_last (g.C.Shaped.shape c.args.item.now) _ _ _ _ c.pass.new.self.error (λ z. c.if-levels_left-eq0.false z) (c.in_ok-draw_entry.ensures.bytes outer e) c.from_residual-in_err-pass.ensures.1

pub draw_item-returns-clause-bytes : goal.draw_item-returns-clause-bytes
draw_item-returns-clause-bytes g t c = λ outer e.
    let look = look_of c.args.brush.now.look in
    let passing = outer ++ passing_piece look.pieces c.args.is_last in
    item_written look c.args.levels_left outer c.args.is_last (g.C.Shaped.shape c.args.item.now) _ _ _ _ _ (λ z. c.if-levels_left-eq0.false z)
    (c.in_ok-draw_entry.ensures.bytes outer e)
    (all_below look (entries_below look (c.args.levels_left - 1)) passing (g.C.Shaped.shape c.args.item.now) _ _ _ _ g.C.Shaped.shape c.as_slice-2.result.now
    (ap (map g.C.Shaped.shape) c.as_slice-2.ensures ∙ c.in_ok-children.ensures)
    (c.draw_children.ensures.bytes passing (passes_on c.args.width _ _ _ _ outer _ c.in_ok-draw_entry.ensures.kept c.in_ok-pass.ensures.line e)))

pub draw_item-returns-then-is_empty-clause-bytes : goal.draw_item-returns-then-is_empty-clause-bytes
draw_item-returns-then-is_empty-clause-bytes g t c = λ outer e.
    leaf_written (look_of c.args.brush.now.look) c.args.levels_left outer c.args.is_last (g.C.Shaped.shape c.args.item.now) _ _
    (none_below (g.C.Shaped.shape c.args.item.now) g.C.Shaped.shape c.as_slice.result.now c.is_empty.result c.if-is_empty.true c.is_empty.ensures (ap (map g.C.Shaped.shape) c.as_slice.ensures ∙ c.in_ok-children.ensures))
    (c.in_ok-draw_entry.ensures.bytes outer e)

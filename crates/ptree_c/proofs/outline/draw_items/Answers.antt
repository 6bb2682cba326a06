use Rattle.std.proofs.Common.{[], ◌++◌, get_or, refl, ◌∙◌, subst}
use Rattle.ptree.specs.ItemWriter.{writer_look, path_of}
use Rattle.ptree_c.specs.Outlines.{step_of, kept_before, drawn_text}
use Rattle.ptree_c.specs.Rooms.{IsFilled}
use Rattle.ptree_c.proofs.Outlined.{no_item, next_left, next_text, outline_texts, drawn_more}
use Rattle.ptree_c.proofs.Rooms.{filled_none}
use Rattle.ptree_c.proofs.outline.draw_items.Goals as goal

pub loop-place-init : goal.loop-place-init
loop-place-init c = record {
  drawn = ([], (filled_none c.args.out.now, refl), refl);
  look = refl;
  texts = outline_texts c.args.texts.now.bytes.now c.args.items.now c.requires.right;
}

pub draw_item-requires : goal.draw_item-requires
draw_item-requires c = (next_text c.args.texts.now.bytes.now c.loop-place.from c.loop-place.place c.args.items.now no_item c.loop-place-test.true c.loop-place.invariant.texts).0

pub loop-place-preserved : goal.loop-place-preserved
loop-place-preserved c =
    let drawn = c.loop-place.invariant.drawn in
    let ok = c.in_ok-at.ensures in
    let texts = c.args.texts.now.bytes.now in
    let step = step_of c.loop-place.from (get_or c.args.items.now c.loop-place.place no_item) (get_or c.args.flags.now c.loop-place.place 0) in
    let look = writer_look c.args.writer.now in
    let path = path_of c.loop-place.writer in
    let next = next_left look texts path (path_of c.draw_item.new.writer) c.args.depth c.loop-place.from c.loop-place.place c.args.items.now c.args.flags.now no_item c.loop-place-test.true c.requires.flags ok.path in
    let more = drawn_text look texts path (kept_before c.args.depth step []) in
    record {
      drawn = (
        drawn.0 ++ more,
        subst (λ k. IsFilled c.args.out.now (drawn.0 ++ drawn_text k texts path (kept_before c.args.depth step [])) c.draw_item.new.out c.in_ok-at.at) c.loop-place.invariant.look (ok.filled c.args.out.now drawn.0 drawn.1),
        drawn_more drawn.0 _ _ _ _ next drawn.2,
      );
      look = c.draw_item.ensures.look ∙ c.loop-place.invariant.look;
      texts = (next_text texts c.loop-place.from c.loop-place.place c.args.items.now no_item c.loop-place-test.true c.loop-place.invariant.texts).1;
    }

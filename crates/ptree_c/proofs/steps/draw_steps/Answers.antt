use Rattle.std.proofs.Common.{length, ◌++◌, take, sym, ap, ◌∙◌, subst, arith}
use Rattle.ptree.specs.Drawing.{written_look}
use Rattle.ptree_c.specs.Rooms.{IsFilled}
use Rattle.ptree_c.specs.Steps.{path_after, path_with, step_entry, steps_text}
use Rattle.ptree_c.proofs.Walks.{after_more, text_more, next_of}
use Rattle.ptree_c.proofs.steps.draw_steps.Goals as goal

pub returns-in-Err-clause-all : goal.returns-in-Err-clause-all
returns-in-Err-clause-all c = λ all. absurd (c.in-Err.ensures.stopped all)

pub loop-step-preserved : goal.loop-step-preserved
loop-step-preserved c =
    let look = written_look c.args.config.now in
    let texts = c.args.texts.now in
    let path = c.args.path.now in
    let steps = c.args.steps.now in
    let inv = c.loop-step.invariant in
    let n = c.loop-step.items in
    let s = c.in-Some.step.now in
    let so_far = steps_text look texts path (take n steps) in
    let next = next_of steps n s c.in-Some.tail.now (sym c.in-Some.ensures.cases.0 ∙ inv.left) in
    let text = ap (λ k. so_far ++ step_entry k c.new-known.result.bytes.now c.loop-step.path s) inv.look
    ∙ (ap (λ t. so_far ++ step_entry look t c.loop-step.path s) c.new-known.ensures
    ∙ (ap (λ p. so_far ++ step_entry look texts p s) inv.path ∙ (sym (text_more look texts path (take n steps) s) ∙ ap (steps_text look texts path) (sym next.1)))) in
    record {
      within = omega (arith, next.0);
      left = sym next.2;
      filled = subst (λ z. IsFilled c.args.out.now z c.add_step.new.out c.in-Ok.end) text (c.in-Ok.ensures.filled c.args.out.now so_far inv.filled);
      path = c.in-Ok.ensures.path ∙ (ap (λ p. path_with p s.level s.is_last) inv.path ∙ (sym (after_more path (take n steps) s) ∙ ap (path_after path) (sym next.1)));
      look = c.add_step.ensures.look ∙ inv.look;
      on_path = c.in-Ok.ensures.on_path;
      room = omega (arith, c.in-Ok.ensures.room, c.add_step.auto.out);
    }

pub returns-in-Err-clause-next : goal.returns-in-Err-clause-next
returns-in-Err-clause-next c = λ n is_full.
    let look = written_look c.args.config.now in
    let s = c.in-Some.step.now in
    let same = ap (λ k. length (step_entry k c.new-known.result.bytes.now c.loop-step.path s)) c.loop-step.invariant.look
    ∙ (ap (λ t. length (step_entry look t c.loop-step.path s)) c.new-known.ensures
    ∙ ap (λ p. length (step_entry look c.args.texts.now p s)) (sym c.in-Err.ensures.kept.1)) in
    (s, c.in-Some.tail.now, sym c.loop-step.invariant.left ∙ c.in-Some.ensures.cases.0, c.in-Err.ensures.length n is_full ∙ same)

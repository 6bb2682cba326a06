use Rattle.std.proofs.Common.{[], ℕ, List, Result, Ok, Err, map, ap, ◌∙◌, subst}
use Rattle.std.specs.Io.KnownBytes.{Appends}
use Rattle.std.specs.Result.{OnOk}
use Rattle.ptree.specs.Drawing.{written_look}
use Rattle.ptree.specs.GivenItems.{given_text}
use Rattle.ptree.specs.ItemWriter.{path_of}
use Rattle.examples.specs.Given.{given}
use Rattle.examples.proofs.giving.draw_given.Goals as goal

on_ok : {A E P Q : Type 0} (r : Result A E) → (P → Q) → OnOk r P → OnOk r Q
on_ok (Ok x) f h = f h
on_ok (Err e) f h = tt

pub returns-clause-items : goal.returns-clause-items
returns-clause-items g c =
    let shape = g.T.Shaped.shape in
    let look = written_look c.args.config.now in
    let items = c.args.items.now in
    let path = path_of c.in_ok-writer.writer in
    let same = ap (λ k. given_text k path (map (given shape k) items)) c.in_ok-writer.ensures.look ∙ ap (λ p. given_text look p (map (given shape look) items)) c.in_ok-writer.ensures.path in
    on_ok c.put_given-drawn.result
    (λ appends x depth list is are. (
      given_text look [] (map (given shape look) items),
      c.new.ensures.items x depth list [] (map (given shape look) items) is are,
      subst (λ (z : List ℕ). Appends (g.W.Sink.contents c.args.f.now) (g.W.Sink.contents c.put_given-drawn.new.f) z) same appends,
    ))
    c.put_given-drawn.ensures

pub returns-clause-lines : goal.returns-clause-lines
returns-clause-lines g c =
    let shape = g.T.Shaped.shape in
    let look = written_look c.args.config.now in
    let items = c.args.items.now in
    let path = path_of c.in_ok-writer.writer in
    let same = ap (λ k. given_text k path (map (given shape k) items)) c.in_ok-writer.ensures.look ∙ ap (λ p. given_text look p (map (given shape look) items)) c.in_ok-writer.ensures.path in
    on_ok c.put_given-drawn.result
    (λ appends t depth high are. (
      given_text look [] (map (given shape look) items),
      c.new.ensures.lines t [] (map (given shape look) items) depth high are,
      subst (λ (z : List ℕ). Appends (g.W.Sink.contents c.args.f.now) (g.W.Sink.contents c.put_given-drawn.new.f) z) same appends,
    ))
    c.put_given-drawn.ensures

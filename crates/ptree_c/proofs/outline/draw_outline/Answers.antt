use Rattle.std.proofs.Common.{[], List, ℕ, sym, ap, ◌∙◌, subst}
use Rattle.ptree.specs.Drawing.{written_look}
use Rattle.ptree.specs.ItemWriter.{writer_look, path_of}
use Rattle.ptree_c.specs.Outlines.{AreLastFlags, drawn_text, steps_from}
use Rattle.ptree_c.proofs.Outlined.{outline_drawn}
use Rattle.ptree_c.proofs.outline.draw_outline.Goals as goal

pub returns-in-Some-clause-drawn : goal.returns-in-Some-clause-drawn
returns-in-Some-clause-drawn c =
    let config = c.args.config.now in
    let items = c.args.items.now in
    let texts = c.args.texts.now in
    let flags = c.deref.result.now in
    let steps = steps_from config.depth 0 items flags in
    let writer = c.in_ok-writer.writer in
    let last = subst (λ (f : List ℕ). AreLastFlags items f) (sym c.deref.ensures.value) c.in_ok-flags.ensures.flags in
    let drawing = drawn_text (writer_look writer) c.new-known.result.bytes.now (path_of writer) steps in
    let same = ap (λ k. drawn_text k c.new-known.result.bytes.now (path_of writer) steps) c.in_ok-writer.ensures.look
    ∙ (ap (λ t. drawn_text (written_look config) t (path_of writer) steps) c.new-known.ensures ∙ ap (λ p. drawn_text (written_look config) texts p steps) c.in_ok-writer.ensures.path) in (
      drawing,
      outline_drawn (written_look config) texts items flags c.in_ok-deepest.deepest config.depth drawing c.in_ok-deepest.ensures.deepest last same,
      c.in-Some.ensures,
    )

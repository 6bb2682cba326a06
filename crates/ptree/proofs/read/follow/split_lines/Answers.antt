use Rattle.std.proofs.Common.{[], ◌∷◌, ◌++◌, take, inl, inr, refl, sym, ◌∙◌, append_assoc}
use Rattle.std.proofs.lemmas.List.{append_cancel_right}
use Rattle.ptree.proofs.Reading.LineEnds.{last_feed, no_feed}
use Rattle.ptree.proofs.read.follow.split_lines.Goals as goal

pub without_end-requires : goal.without_end-requires
without_end-requires c =
    let (i, j, found, before, behind, low, first, size) = c.in-Some.ensures.cases in
    let (is, one) = last_feed c.args.text.now c.in-Some.part.now i j found behind in
    (take i c.args.text.now ++ 10 ∷ [], is ∙ sym (append_assoc (take i c.args.text.now) (10 ∷ []) c.in-Some.part.now))

pub returns-in-Some : goal.returns-in-Some
returns-in-Some c =
    let text = c.args.text.now in
    let (i, j, found, before, behind, low, first, size) = c.in-Some.ensures.cases in
    let (is, one) = last_feed text c.in-Some.part.now i j found behind in
    (inr (take i text, append_cancel_right _ _ c.in-Some.part.now (sym c.without_end.ensures ∙ (is ∙ sym (append_assoc (take i text) (10 ∷ []) c.in-Some.part.now)))), one, c.without_end.ensures)

pub returns-in-None : goal.returns-in-None
returns-in-None c = (inl refl, no_feed c.args.text.now c.in-None.ensures.cases, refl)

use Rattle.trees.proofs.Common.{◌≡◌, ◌∙◌, ◌++◌, ◌+◌, codes, get_or, map, drop, string_bytes, append_assoc, append-nil, ap, sym, at_drop_more, drop_all, read_text_of, escaped_text}
use Rattle.trees.specs.Merging.{way_text}
use Rattle.trees.proofs.compare.push_way.Goals as goal

pub loop-text-preserved : goal.loop-text-preserved
loop-text-preserved c =
    let above = c.args.above.now in
    let i = c.loop-text.text-index in
    let said = string_bytes c.loop-text.said in
    let rest = way_text (map read_text_of (drop (i + 1) above)) in
    let own : string_bytes c.write.new.self ≡ said ++ (escaped_text (read_text_of (get_or above i c.text-item.result)) ++ codes " / ") = c.in_ok-write.ensures.bytes ∙ ap (λ text. said ++ (text ++ codes " / ")) (c.in_ok-text.ensures.text ∙ ap escaped_text (c.as_str.ensures ∙ ap read_text_of c.text-item.is)) in
    ap (λ z. z ++ rest) own ∙ append_assoc said _ rest ∙ ap (λ z. said ++ z) (sym (at_drop_more (λ z. way_text (map read_text_of z)) above i c.text-item.result c.loop-text-test.true)) ∙ c.loop-text.invariant

pub returns : goal.returns
returns c = sym (ap (λ z. string_bytes c.loop-text.said ++ way_text (map read_text_of z)) (drop_all c.loop-text.text-index c.args.above.now c.loop-text-test.false) ∙ append-nil (string_bytes c.loop-text.said)) ∙ c.loop-text.invariant

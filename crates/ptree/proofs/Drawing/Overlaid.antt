-- Texts that are put at a place, after the first bytes of a buffer.
use Rattle.std.proofs.Common.{◌≡◌, ℕ, ◌+◌, ◌-◌, ◌≤◌, List, ◌++◌, length, take, drop, ap, sym, ◌∙◌, arith, append_assoc, length-take-le, length-drop, take-take, take_all, take-append-drop}
use Rattle.std.proofs.Math.Seq.{take-append-add}

-- the first and the last `half` bytes of a text, one over the other, are the text
pub ends_overlaid : (a b c text : List ℕ) (at half : ℕ) → at ≤ length a → half ≤ length text → length text ≤ half + half
    → take (at + half) b ≡ take at a ++ take half text
    → take ((at + (length text - half)) + half) c ≡ take (at + (length text - half)) b ++ take half (drop (length text - half) text)
    → take (at + length text) c ≡ take at a ++ text
ends_overlaid a b c text at half within low high front back =
    let last = length text - half in
    let wide : length (take at a) ≡ at = length-take-le at a within in
    let begun : take (at + last) b ≡ take at a ++ take last text =
    sym (take-take (at + last) (at + half) b (omega arith)) ∙ ap (take (at + last)) front
    ∙ ap (λ n. take (n + last) (take at a ++ take half text)) (sym wide) ∙ take-append-add (take at a) (take half text) last
    ∙ ap (λ l. take at a ++ l) (take-take last half text (omega arith)) in
    let end : at + length text ≡ (at + last) + half = omega arith in
    let rest : take half (drop last text) ≡ drop last text = take_all half (drop last text) (omega (arith, length-drop last text)) in
    ap (λ n. take n c) end ∙ back ∙ ap (λ l. l ++ take half (drop last text)) begun ∙ ap (λ l. (take at a ++ take last text) ++ l) rest
    ∙ append_assoc (take at a) (take last text) (drop last text) ∙ ap (λ l. take at a ++ l) (take-append-drop last text)

use Rattle.std.proofs.Common.{◌≡◌, ◌∙◌, suc, List, [], ◌∷◌, length, refl, ap, rules}
use Rattle.ptree.specs.Matched.{AreMatched}
use Rattle.examples.proofs.configuring.count_of_keys.Goals as goal

-- matched lists have the same length
matched_length : {X Y : Type 0} (R : X → Y → Type 0) (xs : List X) (ys : List Y) → AreMatched R xs ys → length ys ≡ length xs
matched_length R [] [] h = refl
matched_length R [] (y ∷ ys) h = absurd h
matched_length R (x ∷ xs) [] h = absurd h
matched_length R (x ∷ xs) (y ∷ ys) h = ap suc (matched_length R xs ys h.1)

pub returns : goal.returns
returns c =
    let same = matched_length _ _ _ c.in_ok-found.ensures in
    let counted : c.len.result ≡ length c.in_ok-found.found.items = search rules in
    counted ∙ same

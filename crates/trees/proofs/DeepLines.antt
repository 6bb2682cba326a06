-- Lines that begin with passing pieces.
use Rattle.trees.proofs.Common.{◌≡◌, ℕ, ◌+◌, ◌⊎◌, inl, inr, Bool, true, false, List, [], ◌∷◌, ◌++◌, length, length-append, refl, sym, ap, ◌∙◌, append_assoc, arith, IsPrefixOf, passing_all-push}
use Rattle.ptree.specs.Pieces.{Pieces, turning_piece, passing_piece, passing_all}
use Rattle.trees.specs.Expected.{IsTooDeep}

-- a line is n passing pieces, and then the rest
abbrev pub PassesTo : Pieces → List ℕ → ℕ → List ℕ → Type 0
PassesTo p line n rest = (above : List Bool) × (length above ≡ n) × (line ≡ passing_all p above ++ rest)

-- one passing piece more
pub passes_more : (p : Pieces) (line rest piece left : List ℕ) (n : ℕ) → PassesTo p line n rest → (last : Bool) × (piece ≡ passing_piece p last) × (rest ≡ piece ++ left) → PassesTo p line (n + 1) left
passes_more p line rest piece left n (above, count, is) (last, same, goes) = (
  above ++ last ∷ [],
  omega (arith, count, length-append above (last ∷ [])),
  is ∙ (ap (λ z. passing_all p above ++ z) (goes ∙ ap (λ z. z ++ left) same)
      ∙ (sym (append_assoc (passing_all p above) (passing_piece p last) left) ∙ ap (λ z. z ++ left) (sym (passing_all-push p above last)))),
)

-- an item's piece behind 5,000 of them is too deep
pub turns_too_deep : (p : Pieces) (line rest : List ℕ) (n : ℕ) → PassesTo p line n rest → n ≡ 5000 → IsPrefixOf p.regular rest ⊎ IsPrefixOf p.last_regular rest → IsTooDeep p line
turns_too_deep p line rest n (above, count, is) all (inl (z, starts)) =
    (passing_all p above ++ turning_piece p false, (above, false, count ∙ all, refl), (z, is ∙ (ap (λ y. passing_all p above ++ y) starts ∙ sym (append_assoc (passing_all p above) p.regular z))))
turns_too_deep p line rest n (above, count, is) all (inr (z, starts)) =
    (passing_all p above ++ turning_piece p true, (above, true, count ∙ all, refl), (z, is ∙ (ap (λ y. passing_all p above ++ y) starts ∙ sym (append_assoc (passing_all p above) p.last_regular z))))

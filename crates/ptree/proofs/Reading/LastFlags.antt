-- Last flags, from the last line up.
use Rattle.std.proofs.Common.{◌≡◌, ℕ, zero, suc, ◌+◌, not, List, length, refl, ap, ◌∙◌, add-one}
use Rattle.std.proofs.lemmas.List.{length_push}
use Rattle.ptree.specs.Flags.{has_later, last_flags}
use Rattle.ptree.specs.Outline.{Line}

-- there is a flag for each level
pub length-last_flags : (o : List Line) (n : ℕ) → length (last_flags o n) ≡ n
length-last_flags o zero = refl
length-last_flags o (suc n) = length_push (last_flags o n) (not (has_later o (suc n))) ∙ (ap (λ z. z + 1) (length-last_flags o n) ∙ add-one n)

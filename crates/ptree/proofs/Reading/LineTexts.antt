-- The text of a line behind two parts, as these were taken off one after the other.
use Rattle.std.proofs.Common.{◌≡◌, ◌≢◌, List, ℕ, ◌∷◌, ◌++◌, Option, Some, None, inl, inr, sym, ap, ◌∙◌}
use Rattle.std.proofs.lemmas.List.{append_cancel_left}
use Rattle.std.specs.Borrow.{Bor}
use Rattle.std.specs.Prelude.{MatchOption}
use Rattle.ptree.specs.ReadItems.{IsTextBehind}
use Rattle.ptree.specs.Texts.{HasNoLineFeed}

-- the first part is there, and the second isn't
pub no_text_behind : (first second text closed : List ℕ) → text ≡ first ++ closed → ((z : List ℕ) → closed ≢ second ++ z) → IsTextBehind first second text None
no_text_behind first second text closed is never = inl (λ z e. never z (append_cancel_left first closed (second ++ z) (sym is ∙ e)))

-- both are there, and a line or none
pub text_behind : (first second text closed start : List ℕ) (found : Option (Bor (List ℕ) × Bor (List ℕ))) → text ≡ first ++ closed → closed ≡ second ++ start
    → MatchOption found (HasNoLineFeed start) (λ r. HasNoLineFeed r.0.now × (start ≡ r.0.now ++ 10 ∷ r.1.now)) → IsTextBehind first second text found
text_behind first second text closed start None is then none = inr (start, is ∙ ap (λ z. first ++ z) then, none)
text_behind first second text closed start (Some r) is then line = (line.0, is ∙ ap (λ z. first ++ z) (then ∙ ap (λ z. second ++ z) line.1))

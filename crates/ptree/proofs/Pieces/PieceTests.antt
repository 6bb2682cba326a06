-- Tests of pieces.
use Rattle.std.proofs.Common.{◌≡◌, ℕ, ◌<◌, Bool, true, false, not, List, length, get_or, refl, ◌∙◌}
use Rattle.std.specs.Prelude.{IsTrue, ◌↔◌}
use Rattle.std.proofs.lemmas.List.{get_or_default}
use Rattle.ptree.specs.Pieces.{Pieces, turning_piece, passing_piece}
use Rattle.ptree.specs.Readable.{ArePrefixFree}
use Rattle.ptree.specs.Texts.{HasNoLineFeed}

-- what a search for the line feed gives
pub no_line_feed_test : (bs : List ℕ) (found : Bool) → (found ≡ true → (k : ℕ) × (k < length bs) × (get_or bs k 0 ≡ 10)) × ((k : ℕ) → k < length bs → get_or bs k 0 ≡ 10 → found ≡ true)
    → IsTrue (not found) ↔ HasNoLineFeed bs
no_line_feed_test bs true h = let at = h.0 refl in (λ e. absurd (cc), λ one. absurd (one at.0 0 at.1 at.2))
no_line_feed_test bs false h = (λ e k d l is. absurd (let t = h.1 k l (get_or_default bs k 0 d l ∙ is) in cc), λ one. refl)

-- no piece holds a line feed
pub record OneLine (p : Pieces) : Type 0 where
  pub turning : HasNoLineFeed (turning_piece p false) × HasNoLineFeed (turning_piece p true)
  pub passing : HasNoLineFeed (passing_piece p false) × HasNoLineFeed (passing_piece p true)

-- each piece holds no line feed
pub one_line_each : (p : Pieces) → OneLine p → (last : Bool) → HasNoLineFeed (turning_piece p last) × HasNoLineFeed (passing_piece p last)
one_line_each p h false = (h.turning.0, h.passing.0)
one_line_each p h true = (h.turning.1, h.passing.1)

-- no turning piece is a prefix of a passing one, nor the reverse
pub record KindsApart (p : Pieces) : Type 0 where
  pub regular : ArePrefixFree (turning_piece p false) (passing_piece p false) × ArePrefixFree (turning_piece p false) (passing_piece p true)
  pub last_regular : ArePrefixFree (turning_piece p true) (passing_piece p false) × ArePrefixFree (turning_piece p true) (passing_piece p true)

-- each turning piece is apart from each passing one
pub kinds_apart_each : (p : Pieces) → KindsApart p → (a b : Bool) → ArePrefixFree (turning_piece p a) (passing_piece p b)
kinds_apart_each p h false false = h.regular.0
kinds_apart_each p h false true = h.regular.1
kinds_apart_each p h true false = h.last_regular.0
kinds_apart_each p h true true = h.last_regular.1

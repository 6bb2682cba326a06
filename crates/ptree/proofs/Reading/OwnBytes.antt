-- Own bytes of one line and of several.
use Rattle.std.proofs.Common.{ℕ, suc, List, [], ◌∷◌, ◌++◌, refl, arith}
use Rattle.ptree.specs.Texts.{HasNoLineFeed}

-- a text with a line feed in it holds one
pub holds_line_feed : (a b : List ℕ) → HasNoLineFeed (a ++ 10 ∷ b) → ⊥
holds_line_feed [] b h = h 0 0 (omega arith) refl
holds_line_feed (x ∷ a) b h = holds_line_feed a b (λ k d l. h (suc k) d (omega arith))

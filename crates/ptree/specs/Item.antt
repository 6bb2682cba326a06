-- The shapes of items with a text.
use Rattle.std.specs.Prelude.{ℕ, List, string_bytes}
use Rattle.ptree.specs.declared.item.made.Text.{Text}
use Rattle.ptree.specs.declared.item.made.Text.TheVariants.{Lent, Made}
use Rattle.ptree.specs.Shape.{Shape, unfolded_shape, over_shape}
use Rattle.ptree.specs.Style.{StyleValue, painted_text}

-- a text's bytes, lent or made
abbrev pub bytes_of : Text → List ℕ
bytes_of (Lent s) = s.now
bytes_of (Made s) = string_bytes s

-- what an item writes: its text painted
abbrev pub text_own : {X : Type 0} → (X → List ℕ) → X → StyleValue → List ℕ
text_own text x style = painted_text style (text x)

-- the shape of an item by its text and its children of the same type
abbrev pub text_shape : {X : Type 0} → (X → List ℕ) → (X → List X) → X → Shape
text_shape text below = unfolded_shape (text_own text) below

-- the shape of a text painted over children
abbrev pub root_shape : List ℕ → List Shape → Shape
root_shape text cs = over_shape (λ style. painted_text style text) cs

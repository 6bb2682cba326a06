-- Texts as lists of bytes.
use Rattle.std.specs.Prelude.{◌≡◌, ◌≢◌, ℕ, List, ◌++◌, All}

-- the byte that ends a line
abbrev pub line_feed : ℕ
line_feed = 10

-- a text of one line
abbrev pub HasNoLineFeed : List ℕ → Type 0
HasNoLineFeed = All (λ b. b ≢ line_feed)

-- a is a prefix of b, and may be all of it
abbrev pub IsPrefixOf : List ℕ → List ℕ → Type 0
IsPrefixOf a b = (rest : List ℕ) × (b ≡ a ++ rest)

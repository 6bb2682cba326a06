-- Which items are last children, by the levels of the lines after them.
use Rattle.std.specs.Prelude.{◌≡◌, ℕ, zero, suc, Bool, false, not, nat_lt, nat_eq, if◌then◌else◌, List, [], ◌∷◌, ◌++◌}
use Rattle.ptree.specs.Outline.{Line}
use Rattle.ptree.specs.Pieces.{Pieces, turning_piece, passing_all}
use Rattle.ptree.specs.Spelled.{SpelledItem, spelled_item, line_of_item, lines_of_items, has_line_feed}

-- the item at level n above these lines has a later sibling: the first line that is not deeper than
-- n is at level n
abbrev pub has_later : List Line → ℕ → Bool
has_later [] n = false
has_later (l ∷ o) n = if nat_lt n l.level then has_later o n else nat_eq n l.level

-- for levels 1 to n, whether the item at that level is a last child, by the lines after it
abbrev pub last_flags : List Line → ℕ → List Bool
last_flags o zero = []
last_flags o (suc n) = last_flags o n ++ not (has_later o (suc n)) ∷ []

-- the pieces of a line, by its level and the lines after it
abbrev pub pieces_by : Pieces → List Line → ℕ → List ℕ
pieces_by p o zero = []
pieces_by p o (suc n) = passing_all p (last_flags o n) ++ turning_piece p (not (has_later o (suc n)))

-- the passing pieces of an item, including its own, by its level and the lines after it
abbrev pub passing_by : Pieces → List Line → ℕ → List ℕ
passing_by p o n = passing_all p (last_flags o n)

-- the passing pieces that an item's text shows: none if it has no further line
abbrev pub shown_by : Pieces → List Line → Line → List ℕ
shown_by p o l = if has_line_feed l.text then passing_by p o l.level else []

-- the items of lines, each with the pieces that the levels give
abbrev pub spelled_by : Pieces → List Line → List SpelledItem
spelled_by p [] = []
spelled_by p (l ∷ o) = spelled_item l.level (pieces_by p o l.level) (shown_by p o l) l.text ∷ spelled_by p o

-- an item has the pieces that its level and the lines after it give
abbrev pub HasLastFlags : Pieces → List Line → SpelledItem → Type 0
HasLastFlags p o i = (i.pieces ≡ pieces_by p o i.level) × (i.passing ≡ shown_by p o (line_of_item i))

-- each item has those pieces, if these lines come after the items
abbrev pub HaveLastFlags : Pieces → List SpelledItem → List Line → Type 0
HaveLastFlags p [] later = Unit {0}
HaveLastFlags p (i ∷ items) later = HasLastFlags p (lines_of_items items ++ later) i × HaveLastFlags p items later

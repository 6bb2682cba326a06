-- What a text shows before last flags are considered: the level, the pieces and the text of each
-- item.
use Rattle.std.specs.Prelude.{◌≡◌, ◌≢◌, ◌≤◌, ℕ, zero, suc, nat_eq, if◌then◌else◌, Bool, true, false, List, [], ◌∷◌, ◌++◌, length, map, All}
use Rattle.ptree.specs.Drawing.{Look, continued_prefix, entry_from}
use Rattle.ptree.specs.Outline.{Line, line, Steps}
use Rattle.ptree.specs.Pieces.{Pieces, turning_piece, passing_all}
use Rattle.ptree.specs.Style.{painted_text}
use Rattle.ptree.specs.Texts.{line_feed}

-- whether a text has further lines
abbrev pub has_line_feed : List ℕ → Bool
has_line_feed [] = false
has_line_feed (b ∷ bs) = if nat_eq b line_feed then true else has_line_feed bs

-- an item below the root: its level, the pieces before it, the passing pieces before each of
-- its further lines (none if it has no such line), and its text
pub record SpelledItem : Type 0 where
  pub level : ℕ
  pub pieces : List ℕ
  pub passing : List ℕ
  pub text : List ℕ

-- the item with this level, these pieces and this text
abbrev pub spelled_item : ℕ → List ℕ → List ℕ → List ℕ → SpelledItem
spelled_item n pieces passing text = record { level = n; pieces = pieces; passing = passing; text = text }

-- the item without its pieces
abbrev pub line_of_item : SpelledItem → Line
line_of_item i = line i.level i.text

-- the items without their pieces
abbrev pub lines_of_items : List SpelledItem → List Line
lines_of_items items = map line_of_item items

-- passing pieces of either kind, one fewer than the level, and a turning piece of either kind
abbrev pub ArePiecesAt : Pieces → ℕ → List ℕ → Type 0
ArePiecesAt p zero pieces = ⊥
ArePiecesAt p (suc n) pieces =
    (above : List Bool) × (last : Bool) × (length above ≡ n) × (pieces ≡ passing_all p above ++ turning_piece p last)

-- n passing pieces of either kind
abbrev pub ArePassing : Pieces → ℕ → List ℕ → Type 0
ArePassing p n pieces = (above : List Bool) × (length above ≡ n) × (pieces ≡ passing_all p above)

-- the passing pieces that a text at level n shows: n of either kind before each further line, or
-- none if it has no such line
pub record IsShown (p : Pieces) (n : ℕ) (passing text : List ℕ) : Type 0 where
  pub further : has_line_feed text ≡ true → ArePassing p n passing
  pub single : has_line_feed text ≡ false → passing ≡ []

-- the item's pieces give its level, and so do the pieces of its further lines
abbrev pub IsSpelled : Pieces → SpelledItem → Type 0
IsSpelled p i = ArePiecesAt p i.level i.pieces × IsShown p i.level i.passing i.text

-- rest does not begin with a further line of an item at this level
abbrev pub IsNotContinued : Look → ℕ → List ℕ → Type 0
IsNotContinued look level rest = (passing z : List ℕ) → ArePassing look.pieces level passing → rest ≢ continued_prefix look passing ++ z

-- the entry of a painted text
abbrev pub text_entry : Look → List ℕ → List ℕ → List ℕ → List ℕ
text_entry look prefix passing text = entry_from look prefix passing (painted_text look.leaf text)

-- the text of items
abbrev pub spelled_text : Look → List SpelledItem → List ℕ
spelled_text look [] = []
spelled_text look (i ∷ items) = text_entry look i.pieces i.passing i.text ++ spelled_text look items

-- x is the text of the items below a root; levels increase by at most one, and none exceeds depth
pub record Spells (look : Look) (depth : ℕ) (items : List SpelledItem) (x : List ℕ) : Type 0 where
  pub are_spelled : All (IsSpelled look.pieces) items
  pub steps : Steps 0 (lines_of_items items)
  pub within : All (λ i. i.level ≤ depth) items
  pub text_is : x ≡ spelled_text look items

-- x is the text of an item and then rest, which does not continue the item
abbrev pub HasItem : Look → SpelledItem → List ℕ → List ℕ → Type 0
HasItem look i rest x = IsSpelled look.pieces i × (x ≡ text_entry look i.pieces i.passing i.text ++ rest) × IsNotContinued look i.level rest

-- x is the text of a root and then rest, which does not continue the root
abbrev pub HasRoot : Look → List ℕ → List ℕ → List ℕ → Type 0
HasRoot look root rest x = (x ≡ text_entry look [] [] root ++ rest) × IsNotContinued look 0 rest

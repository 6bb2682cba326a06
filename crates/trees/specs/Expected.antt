-- What could stand in the place of a wrong line.
use Rattle.std.specs.Prelude.{◌≡◌, ◌≢◌, ◌↔◌, ◌⊎◌, ◌<◌, ◌≤◌, ◌-◌, ⊤, ℕ, suc, Bool, true, false, List, [], ◌∷◌, ◌++◌, length, slice_index_or, All, Contains, flat_map, codes}
use Rattle.ptree.specs.declared.print_config.OutputKind.TheVariants.{Unknown}
use Rattle.ptree.specs.Config.{ConfigValue, is_styled}
use Rattle.ptree.specs.Continuation.{HasContinuation, first_lines, line_count}
use Rattle.ptree.specs.Drawing.{look_by}
use Rattle.ptree.specs.Pieces.{Pieces, turning_piece, passing_piece, passing_all, pieces_from}
use Rattle.ptree.specs.Spelled.{ArePiecesAt, ArePassing}
use Rattle.ptree.specs.Texts.{line_feed, HasNoLineFeed, IsPrefixOf}
use Rattle.ptree_trees.specs.Escape.{escaped_text}
use Rattle.trees.specs.Named.{IsReadWithNone, NamesOther, AddsOther}

-- some drawing within the depth begins with these lines, and then one with this before the text `x`
abbrev pub CanFollow : ConfigValue → List ℕ → List ℕ → Type 0
CanFollow config lines beginning = HasContinuation (look_by config Unknown false) config.depth (lines ++ (beginning ++ codes "x\n"))

-- the pieces of an item at this level, with which a drawing can go on after these lines
abbrev pub IsBeginningAt : ConfigValue → List ℕ → ℕ → List ℕ → Type 0
IsBeginningAt config lines level beginning = ArePiecesAt (pieces_from config.characters config.indent config.padding) level beginning × CanFollow config lines beginning

-- the same at some level
abbrev pub IsBeginning : ConfigValue → List ℕ → List ℕ → Type 0
IsBeginning config lines beginning = (level : ℕ) × IsBeginningAt config lines level beginning

-- no text stands twice in the list
abbrev pub AreDistinct : List (List ℕ) → Type 0
AreDistinct [] = ⊤
AreDistinct (text ∷ texts) = All (λ other. text ≢ other) texts × AreDistinct texts

-- texts as they are listed: each on a line of its own, after two blanks
abbrev pub listed_texts : List (List ℕ) → List ℕ
listed_texts texts = flat_map (λ text. codes "\n  " ++ text) texts

-- drawings are not coloured
abbrev pub IsUncoloured : ConfigValue → Type 0
IsUncoloured config = is_styled config.styled Unknown false ≡ false

-- some lines, each of which ends in a line feed
abbrev pub AreWholeLines : List ℕ → Type 0
AreWholeLines lines = (front : List ℕ) × (lines ≡ front ++ line_feed ∷ [])

-- such a list of beginnings after these lines: each once, and after whole lines that are not coloured
-- all those down to level 32
pub record ListsBeginnings (config : ConfigValue) (lines listed : List ℕ) : Type 0 where
  pub texts : List (List ℕ)
  pub listed_is : listed ≡ listed_texts texts
  pub each_once : AreDistinct texts
  pub no_other : All (IsBeginning config lines) texts
  pub all : IsUncoloured config → AreWholeLines lines → (level : ℕ) (text : List ℕ) → level ≤ 32 → IsBeginningAt config lines level text → Contains texts text

-- ## Messages

-- a text has as many lines that end in a line feed, or more
abbrev pub IsWholeLine : List ℕ → ℕ → Type 0
IsWholeLine text n = (1 ≤ n) × (n ≤ line_count text)

-- this is line n of a text, counted from 1, which ends in a line feed
abbrev pub IsLineAt : List ℕ → ℕ → List ℕ → Type 0
IsLineAt text n line = HasNoLineFeed line × ((rest : List ℕ) × (text ≡ first_lines (n - 1) text ++ (line ++ line_feed ∷ rest)))

-- what is said behind a wrong line: the name of pieces with which the text is read or, if there are
-- none, a list of the beginnings that could stand there, or nothing if that is empty
abbrev pub IsHint : ConfigValue → List ℕ → List ℕ → List ℕ → Type 0
IsHint config text lines hint =
    NamesOther config text hint
    ⊎ (IsReadWithNone config text
    × (((hint ≡ []) × ListsBeginnings config lines [])
    ⊎ ((listed : List ℕ) × (hint ≡ codes "\nexpected one of:" ++ listed) × ListsBeginnings config lines listed)))

-- a line begins with the pieces of an item below level 5,000
abbrev pub IsTooDeep : Pieces → List ℕ → Type 0
IsTooDeep p line = (beginning : List ℕ) × ArePiecesAt p 5001 beginning × IsPrefixOf beginning line

-- what is said of a wrong line: that it has too many levels, or the line, escaped, and a hint
abbrev pub TellsLine : ConfigValue → List ℕ → ℕ → List ℕ → Type 0
TellsLine config text n said =
    (line : List ℕ) × IsLineAt text n line
    × (((said ≡ codes "more than 5,000 levels") × IsTooDeep (pieces_from config.characters config.indent config.padding) line)
    ⊎ ((hint : List ℕ) × IsHint config text (first_lines (n - 1) text) hint × (said ≡ codes "cannot continue the drawing:\n  " ++ (escaped_text line ++ hint))))

-- why a text that ends too early is no drawing
abbrev pub IsWhyEnd : List ℕ → List ℕ → Type 0
IsWhyEnd text why =
    ((text ≡ []) × (why ≡ codes "not a drawing: empty"))
    ⊎ ((AreWholeLines text × (why ≡ codes "the drawing is incomplete: an item is missing below the last line"))
    ⊎ ((text ≢ []) × (AreWholeLines text → ⊥) × (why ≡ codes "the drawing is incomplete: its last line does not end in a line feed")))

-- what is said of it: why, and the name of pieces with which it is read, if there are some
abbrev pub TellsEnd : ConfigValue → List ℕ → List ℕ → Type 0
TellsEnd config text said = (why : List ℕ) × (is_read : Bool) × IsWhyEnd text why × AddsOther config text is_read why said

-- ## Parts

-- of lines whose last line feed is left out, this is the last one, or nothing if it is the first
abbrev pub IsLastLine : List ℕ → List ℕ → Type 0
IsLastLine lines line = (HasNoLineFeed lines × (line ≡ [])) ⊎ ((front : List ℕ) × (lines ≡ front ++ line_feed ∷ line) × HasNoLineFeed line)

-- a text grows by a list of exactly the texts of which Is holds, each once
abbrev pub AddsListed : (List ℕ → Type 0) → List ℕ → List ℕ → Type 0
AddsListed Is old new = (texts : List (List ℕ)) × (new ≡ old ++ listed_texts texts) × ((text : List ℕ) → Contains texts text ↔ Is text) × AreDistinct texts

-- a list grows by exactly the texts of which Is holds, each once
abbrev pub AddsTexts : (List ℕ → Type 0) → List (List ℕ) → List (List ℕ) → Type 0
AddsTexts Is old new = (texts : List (List ℕ)) × (new ≡ old ++ texts) × ((text : List ℕ) → Contains texts text ↔ Is text) × AreDistinct texts

-- a text, and an item's piece behind it
abbrev pub EndsPieces : Pieces → List ℕ → List ℕ → Type 0
EndsPieces p front text = (last : Bool) × (text ≡ front ++ turning_piece p last)

-- a text of the first n ones, and an item's piece behind it
abbrev pub EndsFront : Pieces → List (List ℕ) → ℕ → List ℕ → Type 0
EndsFront p fronts n text = (k : ℕ) × (k < n) × EndsPieces p (slice_index_or fronts k []) text

-- one of the first n texts, and its flag is set
abbrev pub IsFlagged : List (List ℕ) → List Bool → ℕ → List ℕ → Type 0
IsFlagged texts flags n text = (k : ℕ) × (k < n) × (slice_index_or flags k false ≡ true) × (text ≡ slice_index_or texts k [])

-- a text, and the passing piece behind it of an item whose own line goes on so
abbrev pub EndsBelow : Pieces → List ℕ → List ℕ → List ℕ → Type 0
EndsBelow p front rest text = (last : Bool) × IsPrefixOf (turning_piece p last) rest × (text ≡ front ++ passing_piece p last)

-- different texts that are passing pieces
abbrev pub AreFronts : Pieces → List (List ℕ) → Type 0
AreFronts p fronts = All (λ front. (level : ℕ) × ArePassing p level front) fronts × AreDistinct fronts

-- among the texts are the passing pieces down to level 31 behind which an item could follow a line: a
-- sibling of one that the line is below, or a child of the one whose own line it is
pub record HasFronts (p : Pieces) (line : List ℕ) (fronts : List (List ℕ)) : Type 0 where
  pub beside : (above : List Bool) → length above < 32 → IsPrefixOf (passing_all p above) line → Contains fronts (passing_all p above)
  pub below : (above : List Bool) (last : Bool) → suc (length above) < 32 → IsPrefixOf (passing_all p above ++ turning_piece p last) line
      → Contains fronts (passing_all p (above ++ last ∷ []))

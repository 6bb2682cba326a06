-- What was read of a drawing whose next lines are asked for.
use Rattle.std.specs.Prelude.{◌≡◌, ◌↔◌, ◌⊎◌, ℕ, Bool, true, false, List, [], ◌∷◌, ◌++◌, length}
use Rattle.ptree.specs.declared.read.follow.OpenDrawing.{OpenDrawing}
use Rattle.ptree.specs.declared.read.lines.Flags.{Flags}
use Rattle.ptree.specs.Continuation.{HasContinuation}
use Rattle.ptree.specs.Drawing.{Look}
use Rattle.ptree.specs.Outline.{Line}
use Rattle.ptree.specs.Reached.{Reached, ArePath}
use Rattle.ptree.specs.Style.{end_codes}
use Rattle.ptree.specs.Texts.{HasNoLineFeed, line_feed}

-- some lines, each of which ends in a line feed
abbrev pub AreLines : List ℕ → Type 0
AreLines lines = (lines ≡ []) ⊎ ((front : List ℕ) × (lines ≡ front ++ line_feed ∷ []))

-- an item's bytes may end with these: the codes after its text are there
abbrev pub IsClosed : Look → List ℕ → Type 0
IsClosed look own = (text : List ℕ) × (own ≡ text ++ end_codes look.leaf)

-- whole lines with a root leave the open items these flags, and say so whether the last item's bytes
-- may end with them
pub record HasRead (look : Look) (depth : ℕ) (before : List ℕ) (fs : List Flags) (closed : Bool) : Type 0 where
  pub lines : List Line
  pub own : List ℕ
  pub reached : Reached look depth before lines (length fs) own fs
  pub closes : (closed ≡ true) ↔ IsClosed look own

-- these whole lines of the drawing were read, or nothing
pub record IsAfter (look : Look) (depth : ℕ) (before : List ℕ) (drawing : OpenDrawing) : Type 0 where
  pub path : ArePath look.pieces drawing.path.flags.items drawing.path.count drawing.path.shown.now
  pub nothing : drawing.has_root ≡ false → (before ≡ []) × (drawing.path.flags.items ≡ [])
  pub something : drawing.has_root ≡ true → HasRead look depth before drawing.path.flags.items drawing.is_closed

-- no drawing begins with these lines and the first line of a text
abbrev pub NoneNext : Look → ℕ → List ℕ → List ℕ → Type 0
NoneNext look depth before text = (line more : List ℕ) → HasNoLineFeed line → text ≡ line ++ line_feed ∷ more → HasContinuation look depth (before ++ line ++ line_feed ∷ []) → ⊥

-- no drawing goes on behind what was read with the first line of a text
abbrev pub GoesOnNowhere : Look → ℕ → List ℕ → OpenDrawing → Type 0
GoesOnNowhere look depth text old = (before : List ℕ) → IsAfter look depth before old → NoneNext look depth before text

-- the first line of a text was read too, and this rest is left
abbrev pub IsNext : Look → ℕ → List ℕ → List ℕ → OpenDrawing → OpenDrawing → Type 0
IsNext look depth text rest old new = (line : List ℕ) × HasNoLineFeed line × (text ≡ line ++ line_feed ∷ rest) × ((before : List ℕ) → IsAfter look depth before old → IsAfter look depth (before ++ line ++ line_feed ∷ []) new)

-- these whole lines were read, or no drawing begins with them
abbrev pub WasRead : Look → ℕ → List ℕ → Bool → OpenDrawing → Type 0
WasRead look depth lines true drawing = IsAfter look depth lines drawing
WasRead look depth lines false drawing = HasContinuation look depth lines → ⊥

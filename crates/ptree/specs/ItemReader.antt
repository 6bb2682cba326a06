-- What a contract sees of a reader of items.
use Rattle.std.specs.Prelude.{◌≡◌, ◌++◌, ◌∷◌, [], ℕ, suc, List, length, Option, Some, None, MatchOption, Result, Ok, Err}
use Rattle.ptree.specs.declared.read.ReadError.{ReadError}
use Rattle.ptree.specs.declared.read.items.ItemReader.{ItemReader}
use Rattle.ptree.specs.declared.read.items.ReadItem.{ReadItem}
use Rattle.ptree.specs.Drawing.{Look}
use Rattle.ptree.specs.DrawnForm.{IsDrawnForm, IsDrawnOutline}
use Rattle.ptree.specs.Looks.{look_of}
use Rattle.ptree.specs.Outline.{Line, line, outline}
use Rattle.ptree.specs.Readable.{IsReadableWith}
use Rattle.ptree.specs.ReadItems.{item_line}
use Rattle.ptree.specs.Scanned.{IsError, IsScanned}
use Rattle.ptree.specs.Tree.{Tree}

-- the items with these lines are the first ones of the tree whose drawing the text is, if there is
-- one
abbrev pub AreFirst : Look → ℕ → List ℕ → List Line → Type 0
AreFirst look depth x done =
    (t : Tree) → IsDrawnForm look depth x t → (more : List Line) × (outline t ≡ done ++ more)

-- The reader has returned the items with these lines of a text, which is a drawing if there is no
-- next one.
--
-- `stands` is the reader's own state, which callers only pass on. It stays in a public clause,
-- since a struct holds no ghost value: which items were returned, and which of the open items may
-- be last, is known from it alone.
pub record HasRead (look : Look) (depth : ℕ) (x : List ℕ) (reader : ItemReader) (done : List Line) : Type 0 where
  pub look_is : look_of reader.frame.look ≡ look
  pub depth_is : reader.frame.depth ≡ depth
  pub text_is : reader.text.now ≡ x
  pub readable : IsReadableWith look.pieces look.marker
  pub first : AreFirst look depth x done
  pub stands : MatchOption reader.next (IsDrawnOutline look depth x done)
      (λ own. IsScanned look depth x reader.place.rest.now reader.place.lines done (length reader.path.flags.items) own.now reader.path.flags.items)

-- what a call for the next item returned behind these, and where it left the reader
abbrev pub IsNextItem : Look → ℕ → List ℕ → List Line → ItemReader → Result (Option ReadItem) ReadError → Type 0
IsNextItem look depth x done reader (Ok None) = IsDrawnOutline look depth x done
IsNextItem look depth x done reader (Ok (Some item)) = HasRead look depth x reader (done ++ item_line item ∷ [])
IsNextItem look depth x done reader (Err e) = IsError look depth x e

-- that is so of each text that the reader may read
abbrev pub IsNext : ItemReader → ItemReader → Result (Option ReadItem) ReadError → Type 0
IsNext old new result = (look : Look) (depth : ℕ) (x : List ℕ) (done : List Line) → HasRead look depth x old done → IsNextItem look depth x done new result

-- what a call for the number of the items behind these returned
abbrev pub IsCountOfRest : Look → ℕ → List ℕ → List Line → Result ℕ ReadError → Type 0
IsCountOfRest look depth x done (Ok n) = (rest : List Line) × (length rest ≡ n) × IsDrawnOutline look depth x (done ++ rest)
IsCountOfRest look depth x done (Err e) = IsError look depth x e

-- behind these lines of a tree is one with this level, or none
abbrev pub IsNextLevel : Tree → List Line → Option ℕ → Type 0
IsNextLevel t done None = outline t ≡ done
IsNextLevel t done (Some n) = (text : List ℕ) × (rest : List Line) × (outline t ≡ done ++ line n text ∷ rest)

-- a bound of the number of the items that a reader can still return
abbrev pub bytes_left : ItemReader → ℕ
bytes_left reader = items_left reader.next (length reader.place.rest.now) where
  items_left : {X : Type 0} → Option X → ℕ → ℕ
  items_left None n = 0
  items_left (Some own) n = suc n

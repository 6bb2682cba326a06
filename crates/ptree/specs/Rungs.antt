-- Where a writer of items stands.
use Rattle.std.specs.Prelude.{◌≡◌, ◌<◌, ◌-◌, ℕ, Bool, true, false, Some, List, ◌++◌, length, map, take, get_or}
use Rattle.ptree.specs.Drawing.{Look}
use Rattle.ptree.specs.Looks.{own_text}
use Rattle.ptree.specs.Pieces.{passing_all}
use Rattle.ptree.specs.Style.{start_codes}
use Rattle.ptree.specs.declared.output.writer.Rung.{Rung}

-- the flags of a path
abbrev pub flags_of : List Rung → List Bool
flags_of rungs = map (λ r. r.is_last) rungs

-- the flags above the last one
abbrev pub above : List Bool → List Bool
above flags = take (length flags - 1) flags

-- what an entry begins with below items with these flags
abbrev pub front_below : Look → List Bool → List ℕ
front_below look flags = start_codes look.branch ++ passing_all look.pieces flags

-- a text begins with another one
abbrev pub Begins : List ℕ → List ℕ → Type 0
Begins front text = take (length front) text ≡ front

-- an item that is on no path
abbrev pub no_rung : Rung
no_rung = record { width = 0; is_last = false }

-- each item of a path has the width of what its entry begins with
abbrev pub AreWidths : Look → List Rung → Type 0
AreWidths look rungs =
    (k : ℕ) → k < length rungs
    → (get_or rungs k no_rung).width ≡ length (front_below look (take k (flags_of rungs)))

-- a buffer begins as the entry of the last item of a path does, and if it is turned with a regular
-- turning piece too
pub record StandsAt (look : Look) (buffer : List ℕ) (turned : Bool) (root : ℕ)
    (rungs : List Rung) : Type 0 where
  pub root_is : root ≡ length (start_codes look.branch)
  pub widths : AreWidths look rungs
  pub front : Begins (front_below look (above (flags_of rungs))) buffer
  pub regular : turned ≡ true
      → Begins (front_below look (above (flags_of rungs)) ++ own_text look (Some false)) buffer

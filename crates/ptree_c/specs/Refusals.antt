-- The numbers of refusals, and why calls refuse.
use Rattle.std.specs.Prelude.{◌≡◌, ◌<◌, ◌≤◌, ◌-◌, ◌⊎◌, ℕ, List, length, take, drop, IsUtf8}
use Rattle.ptree_c.specs.declared.fields.ConfigFields.{ConfigFields}
use Rattle.ptree_c.specs.declared.refusal.Refusal.{Refusal}
use Rattle.ptree_c.specs.declared.refusal.Refusal.TheVariants.{Memory, Utf8, Level, Preset, Pieces, Line, Incomplete, Syntax, Float, Date, End, Format, Part, Color, Fault, Edge, Styled}
use Rattle.ptree_c.specs.declared.room.Found.{Found}

-- the number of a refusal
abbrev pub refusal_number : Refusal → ℕ
refusal_number Memory = 1
refusal_number (Utf8 n) = 2
refusal_number (Level n) = 3
refusal_number Preset = 4
refusal_number Pieces = 5
refusal_number (Line n) = 6
refusal_number Incomplete = 7
refusal_number Syntax = 8
refusal_number Float = 9
refusal_number Date = 10
refusal_number (End n) = 11
refusal_number Format = 12
refusal_number Part = 13
refusal_number Color = 14
refusal_number (Fault n) = 15
refusal_number (Edge n) = 16
refusal_number Styled = 17

-- the place of what was refused, or 0
abbrev pub refusal_place : Refusal → ℕ
refusal_place Memory = 0
refusal_place (Utf8 n) = n
refusal_place (Level n) = n
refusal_place Preset = 0
refusal_place Pieces = 0
refusal_place (Line n) = n
refusal_place Incomplete = 0
refusal_place Syntax = 0
refusal_place Float = 0
refusal_place Date = 0
refusal_place (End n) = n
refusal_place Format = 0
refusal_place Part = 0
refusal_place Color = 0
refusal_place (Fault n) = n
refusal_place (Edge n) = n
refusal_place Styled = 0

-- a call returned the number of this refusal, and found its place and nothing else
abbrev pub IsRefused : ℕ → Found → Refusal → Type 0
IsRefused number found e = (number ≡ refusal_number e) × (found ≡ record { bytes = 0; items = 0; place = refusal_place e })

-- memory ran out, or a text or a colour of the fields is wrong
abbrev pub IsNamesRefusal : Refusal → Type 0
IsNamesRefusal e = (e ≡ Memory) ⊎ (e ≡ Part) ⊎ (e ≡ Color)

-- likewise, or no number styles so
abbrev pub IsFieldsRefusal : ConfigFields → Refusal → Type 0
IsFieldsRefusal c e = IsNamesRefusal e ⊎ ((e ≡ Styled) × (2 < c.styled))

-- the text between two places of texts is there, and UTF-8
abbrev pub IsTextBetween : List ℕ → ℕ → ℕ → Type 0
IsTextBetween texts from end = (from ≤ end) × (end ≤ length texts) × IsUtf8 (take (end - from) (drop from texts))

-- why it is not, where it is that of the item at a place: it ends before it begins, or beyond the texts, or it is not UTF-8
abbrev pub IsTextFault : List ℕ → ℕ → ℕ → ℕ → Refusal → Type 0
IsTextFault texts from end place e =
    ((e ≡ End place) × ((end < from) ⊎ (length texts < end)))
    ⊎ ((e ≡ Utf8 place) × (from ≤ end) × (end ≤ length texts) × (IsUtf8 (take (end - from) (drop from texts)) → ⊥))

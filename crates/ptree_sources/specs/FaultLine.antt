-- The line of a fault in a configuration file.
use Rattle.std.specs.Prelude.{◌≡◌, ⊤, ℕ, zero, suc, ◌<◌, ◌+◌, ◌==◌, List, [], ◌++◌, Option, Some, None, Contains, codes, count_by, drop, take, length, is_some, if◌then◌else◌, string_bytes}
use Rattle.std.specs.Str.{IsCharBoundary}
use Rattle.ptree.specs.AllFaults.{faults_in}
use Rattle.ptree.specs.Fields.{part_key, field_key}
use Rattle.ptree.specs.File.{FileNode}
use Rattle.ptree.specs.Sources.{toml_document, json_document}
use Rattle.ptree.specs.declared.print_config.FileSource.{FileSource}
use Rattle.ptree.specs.declared.print_config.FileSource.TheVariants.{Toml, Json}
use Rattle.ptree.specs.declared.print_config.loader.Fault.{Fault}
use Rattle.ptree.specs.declared.print_config.loader.Fault.TheVariants as fault

-- the key that a fault of a file is about
abbrev pub fault_key : Fault → Option (List ℕ)
fault_key (fault.Table part) = Some (part_key part)
fault_key (fault.Key field) = Some (field_key field)
fault_key _ = None

-- the text of a file, if it has one
abbrev pub file_text : FileSource → Option (List ℕ)
file_text (Toml text) = Some (string_bytes text)
file_text (Json text) = Some (string_bytes text)
file_text _ = None

-- all faults where a document of a file is all that is given
abbrev pub faults_of_document : Option FileNode → List Fault
faults_of_document document =
    faults_in (if is_some document then None else Some fault.Syntax) (record { variables = []; document = document })

-- all faults of a text in the format of a file
abbrev pub faults_of_text : FileSource → List ℕ → List Fault
faults_of_text (Toml _) text = faults_of_document (toml_document text)
faults_of_text (Json _) text = faults_of_document (json_document text)
faults_of_text _ text = []

-- a text is a document in the format of a file, without the fault
pub record Heals (file : FileSource) (e : Fault) (text : List ℕ) : Type 0 where
  pub document : ¬ (Contains (faults_of_text file text) fault.Syntax)
  pub fault : ¬ (Contains (faults_of_text file text) e)

-- a key stands at this place of a text
abbrev pub IsPlace : List ℕ → List ℕ → ℕ → Type 0
IsPlace key text at = (at < length text) × IsCharBoundary text at × ((rest : List ℕ) × (drop at text ≡ key ++ rest))

-- a text with `_` before a place
abbrev pub other_text : List ℕ → ℕ → List ℕ
other_text text at = take at text ++ codes "_" ++ drop at text

-- the fault is gone where another key is in the place of the key at this one
pub record IsFaultPlace (file : FileSource) (e : Fault) (key text : List ℕ) (at : ℕ) : Type 0 where
  pub place : IsPlace key text at
  pub heals : Heals file e (other_text text at)

-- the line in which a text ends, counted from 1
abbrev pub last_line : List ℕ → ℕ
last_line text = 1 + count_by (λ b. b == 10) text

-- the line of a place
abbrev pub line_of : List ℕ → ℕ → ℕ
line_of text at = last_line (take at text)

-- a key stands at so many places after this one
unfoldable pub HasPlaces : List ℕ → List ℕ → ℕ → ℕ → Type 0
HasPlaces key text zero from = ⊤
HasPlaces key text (suc n) from = (at : ℕ) × (from < at) × IsPlace key text at × HasPlaces key text n at

-- how many places of a key are tried, from the end of a text
abbrev pub places_tried : ℕ
places_tried = 32

-- a line is that of the last place of the key where the fault is
pub record IsLastLine (file : FileSource) (e : Fault) (key text : List ℕ) (line : ℕ) : Type 0 where
  pub at : ℕ
  pub line_is : line ≡ line_of text at
  pub here : IsFaultPlace file e key text at
  pub later : (other : ℕ) → at < other → ¬ (IsFaultPlace file e key text other)

-- after each place where the fault is, the key stands at more places than are tried
abbrev pub HasNoLine : FileSource → Fault → List ℕ → List ℕ → Type 0
HasNoLine file e key text = (at : ℕ) → IsFaultPlace file e key text at → HasPlaces key text places_tried at

-- the line of a fault of this key in this text, or none
abbrev pub IsKeyLine : FileSource → Fault → List ℕ → List ℕ → Option ℕ → Type 0
IsKeyLine file e key text None = HasNoLine file e key text
IsKeyLine file e key text (Some line) = IsLastLine file e key text line

-- the line of a fault in a file: that of its syntax is another call's, and a fault of no key has
-- none
abbrev pub IsLineIn : FileSource → Fault → Option (List ℕ) → Option (List ℕ) → Option ℕ → Type 0
IsLineIn file e (Some key) (Some text) line = IsKeyLine file e key text line
IsLineIn file e _ _ line = line ≡ None

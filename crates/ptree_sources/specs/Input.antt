-- What reading the whole input leaves and reports.
use Rattle.std.specs.Prelude.{ℕ, List, Option, Result, Ok, Err}
use Rattle.std.specs.Io.KnownBytes.{Consumes, IsAtEnd}
use Rattle.ptree_sources.specs.declared.input.InputError.{InputError}
use Rattle.ptree_sources.specs.declared.input.InputError.TheVariants.{Failed, NotText, Memory}

-- the known bytes were these, and none is left
abbrev pub ReadsAll : Option (List ℕ) → Option (List ℕ) → List ℕ → Type 0
ReadsAll old new bytes = Consumes old new bytes × IsAtEnd new

-- the number of the input's faults that a result reports
abbrev pub read_faults : {A : Type 0} → Result A InputError → ℕ
read_faults (Ok x) = 0
read_faults (Err Failed) = 1
read_faults (Err NotText) = 0
read_faults (Err Memory) = 0

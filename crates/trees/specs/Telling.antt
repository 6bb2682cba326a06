-- What a call tells by its end: success says that something holds, and a refusal that it doesn't.
use Rattle.std.specs.Prelude.{◌≡◌, ◌≢◌, ℕ, All, None, Result, Ok, Err, string_bytes, ⊤}
use Rattle.std.specs.declared.io.ErrorKind.TheVariants.{BrokenPipe}
use Rattle.ptree.specs.declared.print_config.Sources.{Sources}
use Rattle.ptree.specs.Config.{ConfigValue}
use Rattle.ptree.specs.Loading.{first_fault}
use Rattle.trees.specs.declared.command.Command.{Command}
use Rattle.trees.specs.declared.command.Command.TheVariants.{Draw, Deps, Indented, Check, Convert, Diff, Config}
use Rattle.trees.specs.declared.failure.Failure.{Failure}
use Rattle.trees.specs.declared.failure.Failure.TheVariants.{Usage, Input, Said, Output, Memory}
use Rattle.trees.specs.declared.source.Source.{Source}
use Rattle.trees.specs.Asked.{reading_value}
use Rattle.trees.specs.Reading.{HoldsSome}

-- the call succeeds only if P holds, and refuses only if it doesn't
abbrev pub TellsWhether : {A : Type 0} → Result A Failure → Type 0 → Type 0
TellsWhether (Ok x) P = P
TellsWhether (Err Said) P = P → ⊥
TellsWhether (Err (Usage wrong)) P = ⊤
TellsWhether (Err (Input wrong)) P = ⊤
TellsWhether (Err (Output kind)) P = ⊤
TellsWhether (Err Memory) P = ⊤

-- the exit status of a failure: 2 for a usage error, 141 for a closed pipe, else 1
abbrev pub status_of : Failure → ℕ
status_of (Usage wrong) = 2
status_of (Output BrokenPipe) = 141
status_of _ = 1

-- the number of faults of the output that a result reports: one for `Output`, and otherwise none
abbrev pub failure_faults : {A : Type 0} → Result A Failure → ℕ
failure_faults (Err (Output kind)) = 1
failure_faults _ = 0

-- the call succeeds or refuses only if P holds
abbrev pub TellsOnlyIf : {A : Type 0} → Result A Failure → Type 0 → Type 0
TellsOnlyIf (Ok x) P = P
TellsOnlyIf (Err Said) P = P
TellsOnlyIf (Err (Usage wrong)) P = ⊤
TellsOnlyIf (Err (Input wrong)) P = ⊤
TellsOnlyIf (Err (Output kind)) P = ⊤
TellsOnlyIf (Err Memory) P = ⊤

-- the call says whether two texts are equal, byte for byte, and only of two that are drawings
pub record TellsOfTexts {A : Type 0} (config : ConfigValue) (left right : Source) (result : Result A Failure) : Type 0 where
  pub equal : TellsWhether result (string_bytes left.text ≡ string_bytes right.text)
  pub left_drawn : TellsOnlyIf result (HoldsSome config left)
  pub right_drawn : string_bytes left.text ≢ string_bytes right.text → TellsOnlyIf result (HoldsSome config right)

-- what the end of a command says: `check`, that each input is a drawing; `diff`, that both texts are
-- equal; `config`, that no source has a fault
abbrev pub TellsOfCommand : {A : Type 0} → Sources → Command → Result A Failure → Type 0
TellsOfCommand sources (Check inputs pieces screen) result = TellsWhether result (All (HoldsSome (reading_value sources pieces)) inputs.now)
TellsOfCommand sources (Diff left right diff) result = TellsOfTexts (reading_value sources diff.drawing.pieces) left.now right.now result
TellsOfCommand sources (Draw source tree drawing) result = ⊤
TellsOfCommand sources (Deps source deps drawing) result = ⊤
TellsOfCommand sources (Indented source indented) result = ⊤
TellsOfCommand sources (Convert source convert) result = ⊤
TellsOfCommand sources Config result = TellsWhether result (first_fault sources ≡ None)

-- What a text is as a document, and how a call that draws one ends.
use Rattle.std.specs.Prelude.{◌≡◌, ◌⊎◌, ℕ, ◌+◌, List, Option, Some, None, option_map, Result, Ok, Err}
use Rattle.serde_json.specs.Read.{read}
use Rattle.toml.specs.Data.{table}
use Rattle.toml.specs.Parse.{parse_document}
use Rattle.ptree.specs.declared.sink.DrawError.TheVariants.{Memory}
use Rattle.ptree.specs.declared.value.convert.ConvertError.TheVariants as convert
use Rattle.ptree.specs.declared.value.convert.ConvertError.{ConvertError}
use Rattle.ptree.specs.declared.value.document.DocError.{DocError}
use Rattle.ptree.specs.declared.value.document.DocError.TheVariants.{Syntax, Float, Date, Draw}
use Rattle.ptree.specs.declared.value.document.DocFormat.{DocFormat}
use Rattle.ptree.specs.declared.value.document.DocFormat.TheVariants.{Toml, Json}
use Rattle.ptree.specs.Convert.{json_conversion, toml_conversion}
use Rattle.ptree.specs.Data.{Data}
use Rattle.ptree.specs.Writing.{result_faults}

-- a conversion error as a document error
abbrev pub document_error : ConvertError → DocError
document_error convert.Float = Float
document_error convert.Date = Date
document_error convert.Memory = Draw Memory

-- the converted value or its error, and `Syntax` if nothing was read
abbrev pub outcome_of : Option (Result Data ConvertError) → Result Data DocError
outcome_of None = Err Syntax
outcome_of (Some (Ok v)) = Ok v
outcome_of (Some (Err e)) = Err (document_error e)

-- the document of a text: its value, or why it is refused. What a text is read as is what
-- `serde_json` and `toml` say.
abbrev pub document : DocFormat → List ℕ → Result Data DocError
document Json text = outcome_of (option_map json_conversion (read text))
document Toml text = outcome_of (option_map (λ ms. toml_conversion (table ms)) (parse_document text))

-- an error says why the document is refused, or that memory ran out
abbrev pub IsRefusal : Result Data DocError → DocError → Type 0
IsRefusal document e = (document ≡ Err e) ⊎ (e ≡ Draw Memory)

-- the number of the sink's faults that a result reports
abbrev pub document_result_faults : {A : Type 0} → Result A DocError → ℕ
document_result_faults (Err (Draw e)) = result_faults {A = Unit {0}} (Err e)
document_result_faults _ = 0

-- the count of faults rose by one exactly when the result reports a fault
abbrev pub HasDocumentCause : {A : Type 0} → ℕ → ℕ → Result A DocError → Type 0
HasDocumentCause old new result = new ≡ old + document_result_faults result

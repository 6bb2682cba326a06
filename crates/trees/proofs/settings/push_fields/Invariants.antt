use Rattle.trees.proofs.Common.{take, string_bytes, config_of}
use Rattle.trees.specs.Reading.{Adds}
use Rattle.trees.specs.Settings.{IsSettingLine}
use Rattle.trees.proofs.settings.push_fields.Given as goal

-- the lines of the fields so far
abbrev pub invariant-loop-field : goal.invariant-loop-field
invariant-loop-field l = Adds (IsSettingLine (config_of l.config)) (take l.field-index l.fields) (string_bytes l.initial.text) (string_bytes l.text)

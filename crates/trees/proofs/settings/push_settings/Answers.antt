use Rattle.trees.proofs.Common.{string_bytes, subst, rules, OnOk, ConfigValue, config_of}
use Rattle.ptree.specs.Fields.{all_fields}
use Rattle.trees.specs.Reading.{Adds}
use Rattle.trees.specs.Settings.{IsSettingLine}
use Rattle.trees.proofs.settings.push_settings.Goals as goal

pub returns : goal.returns
returns c =
    let lines : OnOk c.push_fields.result (Adds (IsSettingLine (config_of c.args.found.now.config)) all_fields (string_bytes c.args.text.now) (string_bytes c.push_fields.new.text)) = search rules in
    subst (λ (v : ConfigValue). OnOk c.push_fields.result (Adds (IsSettingLine v) all_fields (string_bytes c.args.text.now) (string_bytes c.push_fields.new.text))) c.args.found.now.loaded lines

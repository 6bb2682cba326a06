use Rattle.std.proofs.Common.{◌++◌, codes, ap, ◌∙◌, string_bytes, append_assoc}
use Rattle.trees.specs.Settings.{setting_name}
use Rattle.trees.proofs.settings.push_setting.Goals as goal

pub returns : goal.returns
returns c =
    let value = string_bytes c.in_ok-value.value in
    let end = codes ": " ++ value in
    (value, c.in_ok-value.ensures, c.in_ok-write.ensures.bytes ∙ (ap (λ z. z ++ end) c.in_ok-push_name.ensures ∙ append_assoc (string_bytes c.args.text.now) (setting_name c.args.field) end))

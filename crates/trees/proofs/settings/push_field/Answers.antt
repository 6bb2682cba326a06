use Rattle.std.proofs.Common.{[], ◌++◌, inl, inr, codes, refl, sym, ap, ◌∙◌, string_bytes, append-nil, append_assoc, rules}
use Rattle.trees.specs.Settings.{setting_name}
use Rattle.trees.proofs.settings.push_field.Goals as goal

pub returns-then-eq : goal.returns-then-eq
returns-then-eq c = ([], sym (append-nil (string_bytes c.args.text.now)), inl (search rules, refl))

pub returns : goal.returns
returns c =
    let (value, is, first) = c.in_ok-push_setting.ensures in
    let (origin, second) = c.in_ok-push_origin.ensures in
    let start = setting_name c.args.field ++ (codes ": " ++ value) in
    let end = codes " (" ++ (origin ++ codes ")\n") in
    (start ++ end, second ∙ (ap (λ z. z ++ end) first ∙ append_assoc (string_bytes c.args.text.now) start end), inr (search rules, value, origin, is, refl))

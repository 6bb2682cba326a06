use Rattle.trees.proofs.Common.{◌∙◌, option_map, sym, ap, toml}
use Rattle.toml.specs.View.{view}
use Rattle.trees.proofs.Parts.{at_its_key, at_said}
use Rattle.trees.proofs.document.TomlValueValue.part.Goals as goal

pub returns-in-Some : goal.returns-in-Some
returns-in-Some c = at_its_key toml view (toml (view c.args.self)) c.args.key.now c.toml_part.result _ (ap (option_map toml) (sym c.toml_part.ensures)) (c.toml_part.ensures ∙ sym c.in-Some.ensures)

pub returns-in_ok-number-in-None : goal.returns-in_ok-number-in-None
returns-in_ok-number-in-None c =
    at_said toml view (toml (view c.args.self)) c.args.key.now c.in_ok-number-in-None.field-0 c.toml_part-in-None.result c.in_ok-number-in-None.ensures (ap (option_map toml) (sym c.in-None.ensures)) (ap (option_map toml) (sym c.toml_part-in-None.ensures))

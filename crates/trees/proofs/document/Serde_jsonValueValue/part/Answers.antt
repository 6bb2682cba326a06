use Rattle.trees.proofs.Common.{◌∙◌, option_map, sym, ap, json}
use Rattle.serde_json.specs.View.{view}
use Rattle.trees.proofs.Parts.{at_its_key, at_said}
use Rattle.trees.proofs.document.Serde_jsonValueValue.part.Goals as goal

pub returns-in-Some : goal.returns-in-Some
returns-in-Some c = at_its_key json view (json (view c.args.self)) c.args.key.now c.json_part.result _ (ap (option_map json) (sym c.json_part.ensures)) (c.json_part.ensures ∙ sym c.in-Some.ensures)

pub returns-in_ok-number-in-None : goal.returns-in_ok-number-in-None
returns-in_ok-number-in-None c =
    at_said json view (json (view c.args.self)) c.args.key.now c.in_ok-number-in-None.field-0 c.json_part-in-None.result c.in_ok-number-in-None.ensures (ap (option_map json) (sym c.in-None.ensures)) (ap (option_map json) (sym c.json_part-in-None.ensures))

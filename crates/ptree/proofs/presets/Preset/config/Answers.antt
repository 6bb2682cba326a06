use Rattle.std.proofs.Common.{◌∙◌, ap, sym, subst}
use Rattle.ptree.specs.Characters.{characters_of}
use Rattle.ptree.specs.Config.{ConfigValue}
use Rattle.ptree.specs.Preset.{drawn_with}
use Rattle.ptree.proofs.Pieces.Presets.{IsReadableValue, preset_readable}
use Rattle.ptree.proofs.presets.Preset.config.Goals as goal

pub returns-clause-value : goal.returns-clause-value
returns-clause-value c =
    let drawn = c.pieces-pieces.result in
    ap (λ (v : ConfigValue). record v { characters = characters_of c.in_ok-characters.characters; indent = drawn.indent; padding = drawn.padding }) c.in_ok-config.ensures.value
    ∙ ap (λ z. drawn_with z drawn.indent drawn.padding) c.in_ok-characters.ensures ∙ c.pieces-pieces.ensures

pub returns-clause-readable : goal.returns-clause-readable
returns-clause-readable c = subst IsReadableValue (sym (returns-clause-value c)) (preset_readable c.args.self)

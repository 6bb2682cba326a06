use Rattle.std.proofs.Common.{◌≡◌, ◌∙◌, rules, tests, bytes_eq, ap}
use Rattle.std.specs.Prelude.{position, option_map}
use Rattle.std.proofs.lemmas.Iterator.{YieldsList-from_slice}
use Rattle.std.proofs.lemmas.Iterator.Search.{position_from_yields_List}
use Rattle.ptree.specs.declared.style.tone.TheConstants.{BASIC_NAMES}
use Rattle.ptree.specs.declared.style.tone.Tone.TheVariants.{Eight}
use Rattle.ptree.proofs.Styles.ColorNames.{mapped}
use Rattle.ptree.proofs.style.tone.basic_tone.Goals as goal

pub returns : goal.returns
returns c =
    let found : c.position.result ≡ position (λ word. bytes_eq word.now c.args.name.now) BASIC_NAMES =
    position_from_yields_List (λ word. bytes_eq word.now c.args.name.now) _ _ c.position.result c.position.ensures.ran (YieldsList-from_slice _ c.iter.ensures.rest) (λ x b q k. search (rules, tests)) in
    mapped Eight _ (λ x y k. search rules) c.position.result c.map.result c.map.ensures.cases ∙ ap (option_map Eight) found

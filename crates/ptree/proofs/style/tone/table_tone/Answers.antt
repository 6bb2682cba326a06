use Rattle.std.proofs.Common.{◌∙◌, rules, tests, ap, sym, refl, map}
use Rattle.std.specs.Slice.Iter.{iter_rest}
use Rattle.ptree.specs.Color.{named_color}
use Rattle.std.specs.Prelude.{option_map}
use Rattle.std.specs.Str.{str_eq_ignore_ascii_case}
use Rattle.std.proofs.lemmas.Iterator.{YieldsList-from_slice}
use Rattle.std.proofs.lemmas.Iterator.Search.{find_from_yields_List}
use Rattle.ptree.specs.declared.style.tone.Tone.TheVariants.{Direct}
use Rattle.ptree.proofs.Styles.ColorNames.{mapped, option_map-option_map, table_found}
use Rattle.ptree.proofs.style.tone.table_tone.Goals as goal

pub returns : goal.returns
returns c =
    let found = find_from_yields_List (λ color. str_eq_ignore_ascii_case color.0.now c.args.name.now) _ _ c.find.result c.find.ensures.ran (YieldsList-from_slice _ refl) (λ x b q k. search (rules, tests)) in
    mapped (λ color. Direct color.now.1 color.now.2 color.now.3) _ (λ x y k. search rules) c.find.result c.map.result c.map.ensures.cases
    ∙ sym (option_map-option_map (λ color. Direct color.1 color.2 color.3) (λ color. color.now) c.find.result)
    ∙ ap (option_map (λ color. Direct color.1 color.2 color.3)) found ∙ table_found c.args.name.now (iter_rest c.iter.result) (ap (map (λ color. named_color color.0.now color.1 color.2 color.3)) c.iter.ensures.rest)

use Rattle.std.proofs.Common.{◌≡◌, ◌∙◌, ℕ, Bool, true, false, cond, List, ap, refl, rules, sym}
use Rattle.ptree.specs.Config.{is_styled}
use Rattle.ptree.specs.Drawing.{effective_style, look_from}
use Rattle.ptree.specs.Pieces.{pieces_from}
use Rattle.ptree.specs.declared.print_config.OutputKind.TheVariants.{Unknown}
use Rattle.ptree_c.specs.Fields.{characters_value, config_value, is_set, look_of, number_styled, output_kind, output_look, part_text, style_value, when_styled}
use Rattle.ptree_c.specs.declared.fields.ConfigFields.{ConfigFields}
use Rattle.ptree_c.proofs.paint.ptree_is_styled.Goals as goal

-- 1 styles what is drawn into memory, and 0 does not
styled_again : (b : Bool) → is_styled (when_styled (cond b 1 0)) Unknown false ≡ b
styled_again true = refl
styled_again false = refl

-- fields with a number that styles as much have the same look
look_styled : (texts : List ℕ) (c : ConfigFields) (number output terminal n : ℕ) → n ≡ number_styled number output terminal → c.styled ≡ number
    → look_of texts (record c { styled = n }) ≡ output_look texts c output terminal
unfolding config_value
look_styled texts c number output terminal n is styles =
    let so : Bool = is_styled (when_styled number) (output_kind output) (is_set terminal) in
    ap (λ b. look_from (effective_style b (style_value texts c.branch)) (effective_style b (style_value texts c.leaf)) (pieces_from (characters_value texts c.characters) c.indent c.padding) (part_text texts c.continued))
    (ap (λ m. is_styled (when_styled m) Unknown false) is ∙ (styled_again so ∙ ap (λ m. is_styled (when_styled m) (output_kind output) (is_set terminal)) (sym styles)))

pub returns-in-Ok-Never-clause-look : goal.returns-in-Ok-Never-clause-look
returns-in-Ok-Never-clause-look c = λ small names fields is. look_styled names fields c.args.number c.args.is_standard_output c.args.is_terminal 0 (search rules) is

pub returns-in-Ok-Always-clause-look : goal.returns-in-Ok-Always-clause-look
returns-in-Ok-Always-clause-look c = λ small names fields is. look_styled names fields c.args.number c.args.is_standard_output c.args.is_terminal 1 (search rules) is

pub returns-after-is_standard_output-ne0-clause-look : goal.returns-after-is_standard_output-ne0-clause-look
returns-after-is_standard_output-ne0-clause-look c = λ small names fields is. look_styled names fields c.args.number c.args.is_standard_output c.args.is_terminal _ (search rules) is

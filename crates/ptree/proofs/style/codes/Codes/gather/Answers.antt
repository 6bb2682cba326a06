use Rattle.std.proofs.Common.{◌≡◌, ◌++◌, take, ap, sym, subst, ◌∙◌}
use Rattle.std.specs.Prelude.{IsUtf8}
use Rattle.ptree.specs.declared.style.tone.Side.TheVariants.{Foreground, Background}
use Rattle.ptree.specs.Codes.{codes_of, joined_codes}
use Rattle.ptree.specs.Style.{reset_after, style_of, flags, flag_codes, side_codes, start_codes}
use Rattle.ptree.proofs.Styles.CodeLists.{start_codes_are, end_codes_are}
use Rattle.ptree.proofs.Styles.PaintedTexts.{IsUtf8-start_codes}
use Rattle.ptree.proofs.style.codes.Codes.gather.Goals.{After-push_side-2}
use Rattle.ptree.proofs.style.codes.Codes.gather.Goals as goal

-- what is gathered at the end
front : (c : After-push_side-2) → codes_of c.push_side-2.new.self ≡ start_codes (style_of c.args.style.now)
front c =
    let style = style_of c.args.style.now in
    c.push_side-2.ensures.text
    ∙ ap (λ bs. bs ++ joined_codes (side_codes style.background Background)) (c.push_side.ensures.text ∙ ap (λ bs. bs ++ joined_codes (side_codes style.foreground Foreground)) (c.push_flags.ensures.text ∙ ap (λ n. take n c.args.self.now.bytes ++ joined_codes (flag_codes (flags style))) c.requires))
    ∙ sym (start_codes_are style)

pub returns-clause-front : goal.returns-clause-front
returns-clause-front c = front c

pub returns-clause-back : goal.returns-clause-back
returns-clause-back c = ap reset_after (front c) ∙ end_codes_are (style_of c.args.style.now)

pub returns-clause-utf8 : goal.returns-clause-utf8
returns-clause-utf8 c = subst IsUtf8 (sym (front c)) (IsUtf8-start_codes (style_of c.args.style.now))

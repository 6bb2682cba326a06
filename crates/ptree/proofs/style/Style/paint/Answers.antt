use Rattle.std.proofs.Common.{◌≡◌, ◌∙◌, rules, string_bytes}
use Rattle.ptree.specs.Style.{style_of, painted_text}
use Rattle.ptree.proofs.Styles.PaintedTexts.{no_codes, painted_plain}
use Rattle.ptree.proofs.style.Style.paint.Goals as goal

pub returns-clause-unset : goal.returns-clause-unset
returns-clause-unset c = λ unset.
    let text : string_bytes c.push_str-2.new.self ≡ painted_text (style_of c.args.self.now) c.args.input.now = search rules in
    text ∙ painted_plain (style_of c.args.self.now) c.args.input.now (no_codes (style_of c.args.self.now) unset)

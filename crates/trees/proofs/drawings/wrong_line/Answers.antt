use Rattle.trees.proofs.Common.{◌≡◌, ◌++◌, ℕ, List, inr, ap, ◌∙◌, codes, string_bytes, subst, rules, config_of, escaped_text}
use Rattle.trees.specs.Expected.{IsHint}
use Rattle.trees.proofs.drawings.wrong_line.Goals as goal

pub returns : goal.returns
returns c =
    let hint : List ℕ = string_bytes c.in_ok-hint.hint in
    let line : List ℕ = c.split_at_line.result.1.now in
    let shown : string_bytes c.in_ok-wrong.wrong ≡ escaped_text line = search rules in
    let said : string_bytes c.in_ok-format.field-0 ≡ codes "cannot continue the drawing:\n  " ++ (string_bytes c.in_ok-wrong.wrong ++ hint) = search rules in (
      line,
      c.split_at_line.ensures.line,
      inr (
        hint,
        subst (λ z. IsHint (config_of c.args.config.now) c.args.text.now z hint) c.split_at_line.ensures.before c.in_ok-hint.ensures,
        said ∙ ap (λ z. codes "cannot continue the drawing:\n  " ++ (z ++ hint)) shown,
      ),
    )

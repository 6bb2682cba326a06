use Rattle.trees.proofs.Common.{◌≡◌, string_bytes, subst, rules, config_of}
use Rattle.trees.specs.Named.{AddsOther}
use Rattle.trees.proofs.drawings.wrong_end.Goals as goal

pub returns : goal.returns
returns c =
    let b = c.in_ok-push_other.field-0 in
    let why : string_bytes c.in_ok-said.said ≡ c.why_end.result.now = search rules in
    let added : AddsOther (config_of c.args.config.now) c.args.text.now b (string_bytes c.in_ok-said.said) (string_bytes c.push_other.new.said) = search rules in
    let adds = subst (λ z. AddsOther (config_of c.args.config.now) c.args.text.now b z (string_bytes c.push_other.new.said)) why added in
    (c.why_end.result.now, b, c.why_end.ensures, adds)

use Rattle.std.proofs.Common.{◌≡◌, ◌∙◌, ◌-◌, None, length, refl, ap, arith, rules}
use Rattle.trees.specs.Naming.{without_front}
use Rattle.trees.proofs.NameParts.{FindsEnd, front_left, name_alone, name_got, version_cut, version_none}
use Rattle.trees.proofs.deps.root.parts.Goals.{After-split_once}
use Rattle.trees.proofs.deps.root.parts.Goals as goal

-- what is behind the `@` of a scope
rest_is : (c : After-split_once) → c.unwrap_or-rest.result.now ≡ without_front 64 c.args.text.now
rest_is c = ap (λ t. t.now) c.unwrap_or-rest.ensures ∙ front_left 64 c.args.text.now c.strip_prefix.result c.args.text (omega arith) refl c.strip_prefix.ensures.cases

pub returns-in_default : goal.returns-in_default
returns-in_default c =
    let rest = c.unwrap_or-rest.result.now in
    let is = rest_is (goal.at.returns-in_default c).After-split_once in
    let none : FindsEnd rest None = search rules in
    record { name = name_alone c.args.text.now rest is none; version = version_none c.args.text.now rest is c.in_default.ensures.cases }

pub returns : goal.returns
returns c =
    let text = c.args.text.now in
    let rest = c.unwrap_or-rest.result.now in
    let back = c.in-Some.version.now in
    let cut = c.in-Some.ensures.cases in
    let is = rest_is (goal.at.returns c).After-split_once in
    let last : c.saturating_sub-end.result ≡ length text - length back - 1 = omega arith in
    record {
      name = ap (λ t. t.now) c.unwrap_or.ensures ∙ name_got text rest back cut.0 cut.1 c.saturating_sub-end.result is cut.2 cut.4 cut.7 last c.get.result c.args.text c.utf8.text c.get.ensures.cases;
      version = ap (λ t. t.now) c.unwrap_or-2.ensures
          ∙ (front_left 118 back c.strip_prefix-2.result c.in-Some.version (omega arith) refl c.strip_prefix-2.ensures.cases
          ∙ version_cut text rest back cut.0 cut.1 c.saturating_sub-end.result is cut.2 cut.4 cut.7 last);
    }

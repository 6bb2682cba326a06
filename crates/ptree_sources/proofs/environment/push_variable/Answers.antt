use Rattle.std.proofs.Common.{◌≡◌, map, lit<, ◌∙◌}
use Rattle.std.specs.Prelude.{string_bytes}
use Rattle.ptree_sources.specs.Environment.{variable_of}
use Rattle.ptree_sources.proofs.Entries.{not_text, pushed}
use Rattle.ptree_sources.proofs.environment.push_variable.Goals as goal

pub returns-in_default : goal.returns-in_default
returns-in_default c = not_text c.args.entry.now (map variable_of c.args.found.now.items) c.in_default.ensures.cases.0

pub returns : goal.returns
returns c =
    let cut = c.in-Some.ensures.byte (lit< tt) (λ w o h. h) in
    let name : string_bytes c.in_ok-name.name ≡ c.in-Some.name.now = search (c.in_ok-name.ensures.ok) in
    let value : string_bytes c.in_ok-value.value ≡ c.in-Some.value.now = search (c.in_ok-value.ensures.ok) in
    pushed c.args.found.now.items c.push.new.self.items (c.in_ok-name.name, c.in_ok-value.value) c.args.entry.now c.in-Ok.text.now
    c.in_ok-push.ensures.items c.in-Ok.ensures.cases.1 c.in-Ok.ensures.cases.0 cut.2 (name ∙ cut.0) (value ∙ cut.1)

use Rattle.std.proofs.Common.{[], ℕ, List, lit<, subst}
use Rattle.std.proofs.lemmas.Str.Pattern.{strip_suffix_char}
use Rattle.trees.specs.Expected.{IsLastLine}
use Rattle.trees.proofs.LineCuts.{stripped, behind_last, no_last}
use Rattle.trees.proofs.expected.last_line.Goals as goal

pub returns-in-Some : goal.returns-in-Some
returns-in-Some c front e =
    let text : List ℕ = c.args.text.now in
    let found = c.in-Some.ensures.cases in
    let left = stripped text c.strip_suffix.result c.args.text c.unwrap_or-text.result (strip_suffix_char 10 text c.strip_suffix.result c.strip_suffix.ensures.cases (lit< tt)) c.unwrap_or-text.ensures front e in
    subst (λ z. IsLastLine z c.in-Some.last.now) left (behind_last c.unwrap_or-text.result.now c.in-Some.last.now found.0 found.1 found.2 found.4)

pub returns-in-None : goal.returns-in-None
returns-in-None c front e =
    let text : List ℕ = c.args.text.now in
    let left = stripped text c.strip_suffix.result c.args.text c.unwrap_or-text.result (strip_suffix_char 10 text c.strip_suffix.result c.strip_suffix.ensures.cases (lit< tt)) c.unwrap_or-text.ensures front e in
    subst (λ z. IsLastLine z []) left (no_last c.unwrap_or-text.result.now c.in-None.ensures.cases)

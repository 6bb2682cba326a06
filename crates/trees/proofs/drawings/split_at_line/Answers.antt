use Rattle.trees.proofs.Common.{◌≡◌, ◌+◌, ◌-◌, ◌∷◌, ◌++◌, ℕ, List, ap, ◌∙◌, arith, rules, first_lines, line_count}
use Rattle.ptree.proofs.Reading.FirstLines.{first_more, count_line}
use Rattle.trees.proofs.drawings.split_at_line.Goals as goal

pub loop-passed-preserved : goal.loop-passed-preserved
loop-passed-preserved c =
    let text : List ℕ = c.args.text.now in
    let n : ℕ = c.loop-passed._passed in
    let rest : List ℕ = c.loop-passed.rest.now in
    let line : List ℕ = c.split_line.result.0.now in
    let behind : List ℕ = c.split_line.result.1.now in
    let one : line_count rest ≡ 1 + line_count behind = ap line_count c.split_line.ensures.1 ∙ count_line line behind c.split_line.ensures.0 in (
      search rules,
      first_more n text rest line behind c.loop-passed.invariant.1 c.split_line.ensures.1 c.split_line.ensures.0,
      omega (arith, c.loop-passed.invariant.2, one),
    )

pub returns-clause-line : goal.returns-clause-line
returns-clause-line c =
    let text : List ℕ = c.args.text.now in
    let n : ℕ = c.loop-passed._passed in
    let line : List ℕ = c.split_line-2.result.0.now in
    let behind : List ℕ = c.split_line-2.result.1.now in
    let parts : c.loop-passed.rest.now ≡ line ++ 10 ∷ behind = search rules in
    let all : n ≡ c.args.line - 1 = omega arith in
    (c.split_line-2.ensures.0, (behind, c.loop-passed.invariant.1 ∙ (ap (λ z. first_lines n text ++ z) parts ∙ ap (λ m. first_lines m text ++ (line ++ 10 ∷ behind)) all)))

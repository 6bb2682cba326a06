use Rattle.std.proofs.Common.{◌∙◌, ap, rules}
use Rattle.trees.proofs.OutlineTexts.{blanks_before}
use Rattle.trees.proofs.lists.outlines.indent_of.Goals as goal

pub returns : goal.returns
returns c =
    let line = c.args.line.now in
    let rest = c.trim_start_matches.result.now in
    ap (λ x. x.now) c.unwrap_or.ensures ∙ blanks_before line rest c.strip_suffix.result _ (search rules) (search rules) (search rules)

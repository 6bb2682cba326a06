use Rattle.trees.proofs.Common.{◌∙◌, ap, begins_with}
use Rattle.std.specs.Str.{trim_start}
use Rattle.trees.proofs.NameParts.{starts_is}
use Rattle.trees.proofs.deps.forms.begins_as.Goals as goal

pub returns : goal.returns
returns c =
    let start = c.args.start.now in
    starts_is start c.trim_start.result.now c.starts_with.result c.starts_with.ensures.cases ∙ (ap (begins_with start) c.trim_start.ensures.trim ∙ ap (λ text. begins_with start (trim_start text)) c.unmarked.ensures)

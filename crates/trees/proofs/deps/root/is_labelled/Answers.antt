use Rattle.std.proofs.Common.{◌∙◌, sym}
use Rattle.trees.proofs.NameParts.{no_alias}
use Rattle.trees.proofs.deps.root.is_labelled.Goals as goal

pub returns-in-None : goal.returns-in-None
returns-in-None c =
    sym (no_alias c.args.name.now c.args.label.now c.parts.result.1.now c.parts.ensures.version (sym c.is_called.ensures ∙ c.if-is_called.false) c.in-None.ensures.cases)

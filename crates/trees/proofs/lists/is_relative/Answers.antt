use Rattle.std.proofs.Common.{◌∙◌, not, sym, ap}
use Rattle.trees.proofs.Listings.{relative_none, relative_some}
use Rattle.trees.proofs.lists.is_relative.Goals as goal

pub returns-then-is_empty : goal.returns-then-is_empty
returns-then-is_empty c = relative_none c.args.path.now (sym c.is_empty.ensures ∙ c.if-is_empty.true)

pub returns : goal.returns
returns c = ap not c.is_absolute.ensures ∙ relative_some c.args.path.now (sym c.is_empty.ensures ∙ c.if-is_empty.false)

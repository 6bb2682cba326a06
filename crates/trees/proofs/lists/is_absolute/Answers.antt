use Rattle.std.proofs.Common.{◌∙◌, lit<}
use Rattle.trees.proofs.Listings.{first_byte}
use Rattle.trees.proofs.lists.is_absolute.Goals as goal

pub returns : goal.returns
returns c = c.starts_with.ensures.byte (lit< tt) (lit< tt) (λ w o h. h) ∙ first_byte c.args.path.now

use Rattle.std.proofs.Common.{◌∙◌, ap, rules}
use Rattle.trees.specs.Listing.{to_last}
use Rattle.trees.proofs.PathNames.{trimmed}
use Rattle.trees.proofs.lists.names_of.Goals as goal

pub returns : goal.returns
returns c =
    trimmed c.without_start.result.now c.trim_end_matches.result.now (search rules) ∙ ap to_last c.without_start.ensures

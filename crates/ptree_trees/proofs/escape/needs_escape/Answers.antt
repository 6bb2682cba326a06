use Rattle.std.proofs.Common.{rules}
use Rattle.std.proofs.lemmas.Iterator.{YieldsList-from_chars}
use Rattle.std.proofs.lemmas.Iterator.Search.{any_from_yields_List}
use Rattle.ptree_trees.specs.Escape.{is_escaped}
use Rattle.ptree_trees.proofs.Escapes.{same_if}
use Rattle.ptree_trees.proofs.escape.needs_escape.Goals as goal

pub returns : goal.returns
returns c =
    same_if c.args.text.now c.any.result c.utf8.text
    (any_from_yields_List is_escaped _ _ c.any.result c.any.ensures.ran (YieldsList-from_chars c.args.text.now c.utf8.text cc) (λ x b q k. search rules))

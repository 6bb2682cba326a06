use Rattle.std.proofs.Common.{lit<, rules}
use Rattle.std.proofs.lemmas.Str.Pattern.{contains_char}
use Rattle.trees.proofs.Listings.{zero_test}
use Rattle.trees.proofs.lists.has_zero.Goals as goal

pub returns : goal.returns
returns c =
    let text = c.args.text.now in
    zero_test text c.contains.result (contains_char 0 text c.contains.result (search rules) (lit< tt))

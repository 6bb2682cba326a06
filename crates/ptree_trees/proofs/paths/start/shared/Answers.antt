use Rattle.std.proofs.Common.{◌≡◌, take, rules}
use Rattle.ptree_trees.proofs.StartLoops.{begins_same}
use Rattle.ptree_trees.proofs.paths.start.shared.Goals as goal

pub returns-clause-second : goal.returns-clause-second
returns-clause-second c =
    let a = c.args.a.now in
    let b = c.args.b.now in
    let same : take c.same_bytes.result a ≡ take c.same_bytes.result b = search rules in
    let begins = begins_same c.floor_char_boundary.result c.same_bytes.result a b c.floor_char_boundary.ensures.bound (search rules) same in
    search rules

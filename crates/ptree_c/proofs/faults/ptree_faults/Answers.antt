use Rattle.std.proofs.Common.{rules}
use Rattle.ptree_c.proofs.faults.ptree_faults.Goals as goal

pub returns-in-Ok-clause-found : goal.returns-in-Ok-clause-found
returns-in-Ok-clause-found c = λ done.
    let given = c.in-Ok.ensures in
    (given.0, c.as_bytes.result.now, given.1, search rules, search rules)

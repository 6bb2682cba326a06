use Rattle.std.proofs.Common.{lit<}
use Rattle.trees.proofs.Parts.{first_step, one_key}
use Rattle.trees.proofs.document.split_step.Goals as goal

pub returns-in-Some : goal.returns-in-Some
returns-in-Some c =
    let cut = c.in-Some.ensures.byte (lit< tt) (λ w o h. h) in
    first_step c.args.keys.now c.in-Some.key.now c.in-Some.rest.now cut.0 cut.1 cut.2

pub returns-in-None : goal.returns-in-None
returns-in-None c = one_key c.args.keys.now (c.in-None.ensures.byte (lit< tt) (λ w o h. h))

use Rattle.std.proofs.Common.{take, ◌++◌, ◌∙◌, ap, length, length-append, arith}
use Rattle.std.specs.declared.io.Error.{Error}
use Rattle.ptree.proofs.Sinks.Written.{write_step, put_faults-some}
use Rattle.std.proofs.lemmas.Grind.{common_steps}
use Rattle.ptree.proofs.sink.put_all.Goals as goal

pub loop-rest-preserved : goal.loop-rest-preserved
loop-rest-preserved g c =
    let inv = c.loop-rest.invariant in
    let s = write_step _ _ _ inv.0 c.loop-rest.rest.now c.args.bytes.now c.in-Ok.n c.in-Ok.ensures.bound inv.1 inv.2 c.in-Ok.ensures.bytes in
    (inv.0 ++ take c.in-Ok.n c.loop-rest.rest.now, s.0, s.1, omega (arith, c.in-Ok.ensures.faults, put_faults-some Error c.in-Ok.n c.loop-rest.rest.now c.in-Ok.n-test.1, inv.3), λ e. absurd (omega (arith, ap length (inv.1 ∙ e), length-append inv.0 c.loop-rest.rest.now, c.in-Ok.ensures.bound, c.in-Ok.n-test.1)))

pub returns-in-Ok-eq0-clause-none : goal.returns-in-Ok-eq0-clause-none
returns-in-Ok-eq0-clause-none g c = grind (arith, common_steps)

pub returns-in-Err-clause-none : goal.returns-in-Err-clause-none
returns-in-Err-clause-none g c = grind (arith, common_steps)

pub returns-clause-bytes : goal.returns-clause-bytes
returns-clause-bytes g c = grind (arith, common_steps)

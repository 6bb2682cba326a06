use Rattle.std.proofs.Common.{◌-◌, take, drop, length, arith}
use Rattle.std.specs.declared.io.Error.{Error}
use Rattle.ptree.proofs.Sinks.PassedOn.{takes_more, length_cut}
use Rattle.ptree.proofs.Sinks.Written.{put_faults-some}
use Rattle.ptree.proofs.sink.buffered.put_until_fault.Goals as goal

pub loop-taken-preserved : goal.loop-taken-preserved
loop-taken-preserved g c =
    let inv = c.loop-taken.invariant in
    let bs = c.args.bytes.now in
    let k = c.loop-taken.taken in (
      omega (arith, c.in-Ok.ensures.bound, length_cut bs k, c.loop-taken-test.true),
      takes_more _ _ _ bs k c.in-Ok.n inv.1 c.in-Ok.ensures.bytes,
      omega (arith, c.in-Ok.ensures.faults, put_faults-some Error c.in-Ok.n (take (length bs - k) (drop k bs)) c.in-Ok.n-test.1, inv.2),
    )

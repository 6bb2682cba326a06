use Rattle.std.proofs.Common.{◌≡◌, ◌≤◌, ◌-◌, take, length}
use Rattle.std.specs.Io.KnownBytes.{Appends}
use Rattle.ptree.proofs.sink.buffered.put_until_fault.Given as goal

abbrev pub invariant-loop-taken : goal.invariant-loop-taken
invariant-loop-taken g l =
    (l.taken ≤ length l.bytes) × Appends (g.S.Sink.contents l.fn.sink) (g.S.Sink.contents l.sink) (take l.taken l.bytes) × (g.S.Sink.faults l.sink ≡ g.S.Sink.faults l.fn.sink)

abbrev pub decreases-loop-taken : goal.decreases-loop-taken
decreases-loop-taken g l = length l.bytes - l.taken

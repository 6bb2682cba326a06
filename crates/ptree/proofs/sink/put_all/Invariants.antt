use Rattle.std.proofs.Common.{◌≡◌, ℕ, List, length, [], ◌++◌}
use Rattle.std.specs.Io.KnownBytes.{Appends}
use Rattle.ptree.proofs.sink.put_all.Given as goal

abbrev pub invariant-loop-rest : goal.invariant-loop-rest
invariant-loop-rest g l =
    (prefix : List ℕ) × (prefix ++ l.rest ≡ l.bytes) × Appends (g.W.Sink.contents l.fn.f) (g.W.Sink.contents l.f) prefix × (g.W.Sink.faults l.f ≡ g.W.Sink.faults l.fn.f) × (l.bytes ≡ [] → l.f ≡ l.fn.f)

abbrev pub decreases-loop-rest : goal.decreases-loop-rest
decreases-loop-rest g l = length l.rest

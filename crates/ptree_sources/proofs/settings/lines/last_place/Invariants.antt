use Rattle.std.proofs.Common.{ℕ, ◌<◌, ◌≤◌}
use Rattle.ptree_sources.specs.FaultLine.{IsPlace}
use Rattle.ptree_sources.proofs.settings.lines.last_place.Given as goal

abbrev pub invariant-loop-at : goal.invariant-loop-at
invariant-loop-at l = (other : ℕ) → l.at ≤ other → other < l.end → ¬ (IsPlace l.key l.text other)

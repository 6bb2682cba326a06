-- The room holds what was read so far at its start, and is never full.
use Rattle.std.proofs.Common.{◌≡◌, ◌<◌, ◌-◌, ◌^◌, length, take, vec_items}
use Rattle.std.specs.Io.KnownBytes.{Consumes}
use Rattle.ptree_sources.proofs.input.read_input_bytes.Given as goal

abbrev pub invariant-loop-room : goal.invariant-loop-room
invariant-loop-room g l = (l.filled < length (vec_items l.room))
    × Consumes (g.R.Feed.remaining l.initial.input) (g.R.Feed.remaining l.input) (take l.filled (vec_items l.room))
    × (g.R.Feed.faults l.input ≡ g.R.Feed.faults l.initial.input)

abbrev pub decreases-loop-room : goal.decreases-loop-room
decreases-loop-room g l = 2 ^ 64 - l.filled

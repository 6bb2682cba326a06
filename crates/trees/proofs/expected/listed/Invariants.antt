use Rattle.std.proofs.Common.{[], map, string_bytes}
use Rattle.trees.specs.Expected.{AddsListed, IsFlagged}
use Rattle.trees.proofs.expected.listed.Given as goal

-- those of the first prefixes are listed
abbrev pub invariant-loop-i : goal.invariant-loop-i
invariant-loop-i l = AddsListed (IsFlagged (map string_bytes l.prefixes) l.flags l.i) [] (string_bytes l.listed)

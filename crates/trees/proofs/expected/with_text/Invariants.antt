use Rattle.std.proofs.Common.{◌≡◌, ◌++◌, codes, map, take, string_bytes}
use Rattle.trees.proofs.expected.with_text.Given as goal

-- the lines so far begin with the first prefixes
abbrev pub invariant-loop-prefix : goal.invariant-loop-prefix
invariant-loop-prefix l = map string_bytes l.lines.items ≡ take l.prefix-index (map (λ prefix. prefix ++ codes "x") (map string_bytes l.prefixes))

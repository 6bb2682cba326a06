use Rattle.std.proofs.Common.{◌≡◌, flat_map, string_bytes}
use Rattle.std.specs.Str.{encode_utf8_all}
use Rattle.ptree_trees.specs.Escape.{escape_char}
use Rattle.ptree_trees.proofs.escape.escaped.Given as goal

-- what stands for the characters so far
abbrev pub invariant-loop-c : goal.invariant-loop-c
invariant-loop-c l = string_bytes l.out ≡ encode_utf8_all (flat_map escape_char l.yielded)

use Rattle.std.proofs.Common.{◌≡◌, flat_map, string_bytes, encode_utf8_all}
use Rattle.trees.specs.Shown.{shown_char}
use Rattle.trees.proofs.screen.shown.Given as goal

-- what a terminal gets for the characters so far
abbrev pub invariant-loop-c : goal.invariant-loop-c
invariant-loop-c l = string_bytes l.shown ≡ encode_utf8_all (flat_map shown_char l.yielded)

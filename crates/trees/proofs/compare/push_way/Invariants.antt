use Rattle.trees.proofs.Common.{◌≡◌, ◌++◌, map, drop, string_bytes, read_text_of}
use Rattle.trees.specs.Merging.{way_text}
use Rattle.trees.proofs.compare.push_way.Given as goal

-- what is said so far, with the texts from here on, is all
abbrev pub invariant-loop-text : goal.invariant-loop-text
invariant-loop-text l = string_bytes l.said ++ way_text (map read_text_of (drop l.text-index l.above)) ≡ string_bytes l.initial.said ++ way_text (map read_text_of l.above)

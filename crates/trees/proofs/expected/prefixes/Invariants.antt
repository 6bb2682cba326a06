use Rattle.trees.proofs.Common.{[], map, string_bytes, pieces_of}
use Rattle.trees.specs.Expected.{EndsFront, AddsTexts}
use Rattle.trees.proofs.expected.prefixes.Given as goal

-- the prefixes so far are behind the first fronts
abbrev pub invariant-loop-front : goal.invariant-loop-front
invariant-loop-front l = AddsTexts (EndsFront (pieces_of l.indent) (map string_bytes l.fronts) l.front-index) [] (map string_bytes l.prefixes.items)

use Rattle.trees.proofs.Common.{◌≡◌, ◌+◌, ◌++◌, first_lines, line_count}
use denote.Text.{Utf8}
use denote.Shadow.{shadow}
use Rattle.trees.proofs.drawings.split_at_line.Given as goal

-- the first lines so far, and the rest
abbrev pub invariant-loop-passed : goal.invariant-loop-passed
invariant-loop-passed l = shadow (Utf8 l.rest) × (l.text ≡ first_lines l._passed l.text ++ l.rest) × (line_count l.text ≡ l._passed + line_count l.rest)

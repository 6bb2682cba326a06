use Rattle.trees.proofs.Common.{◌≡◌, ◌++◌, ◌-◌, ◌≤◌, indent}
use denote.Text.{Utf8}
use denote.Shadow.{shadow}
use Rattle.trees.proofs.levels.is_deep.Given as goal

-- the line is an indent of the level so far and the rest
abbrev pub invariant-loop-more : goal.invariant-loop-more
invariant-loop-more l = shadow (Utf8 l.rest) × (l.line ≡ indent l.unit l.level ++ l.rest) × (l.level ≤ 5000)

abbrev pub decreases-loop-more : goal.decreases-loop-more
decreases-loop-more l = 5000 - l.level

use Rattle.std.proofs.Common.{◌≡◌, map, take, string_bytes}
use Rattle.ptree_trees.specs.RefusedPath.{step_of}
use Rattle.trees.specs.Documents.{steps_text}
use Rattle.trees.proofs.document.steps.Given as goal

-- the steps so far
abbrev pub invariant-loop-step : goal.invariant-loop-step
invariant-loop-step l = string_bytes l.steps ≡ steps_text (map step_of (take l.step-index l.path))

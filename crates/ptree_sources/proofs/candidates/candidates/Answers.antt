use Rattle.std.proofs.Common.{◌∙◌, ap, true, List, ℕ}
use Rattle.ptree.specs.Sources.{variables_of}
use Rattle.ptree_sources.specs.Candidates.{Candidates, candidates_beside}
use Rattle.ptree_sources.proofs.candidates.candidates.Goals as goal

-- paths that a variable names
abbrev of_named : List (List ℕ) → Candidates
of_named paths = record { named = true; paths = paths }

pub returns : goal.returns
returns c = ap of_named c.in_ok-paths-2.ensures ∙ ap (λ o. candidates_beside o (variables_of c.args.variables.now)) c.in-Some.ensures

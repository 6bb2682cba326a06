use Rattle.std.proofs.Common.{◌↔◌, IsTrue, All, take, string_bytes}
use Rattle.ptree.specs.Config.{config_of}
use Rattle.trees.specs.Reading.{HoldsSome, IsReport, Adds}
use Rattle.trees.proofs.perform.reports.push_checks.Given as goal

-- whether the sources so far hold drawings, and what is said of them
abbrev pub invariant-loop-source : goal.invariant-loop-source
invariant-loop-source l =
    let config = config_of l.config in
    let sources = take l.source-index l.sources in
    (IsTrue l.are_drawings ↔ All (HoldsSome config) sources) × Adds (IsReport config) sources (string_bytes l.initial.said) (string_bytes l.said)

use Rattle.ptree_sources.proofs.FaultPlaces.{NoneFrom, ManyBefore}
use Rattle.ptree_sources.proofs.settings.lines.key_line.Given as goal

abbrev pub invariant-loop-place : goal.invariant-loop-place
invariant-loop-place l =
    NoneFrom l.file l.fault l.key l.text l.end × ManyBefore l.file l.fault l.key l.text l.place l.end

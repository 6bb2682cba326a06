use Rattle.std.proofs.Common.{arith}
use Rattle.ptree_sources.specs.FaultLine.{IsPlace}
use Rattle.ptree_sources.proofs.FaultPlaces.{none_from_before}
use Rattle.ptree_sources.proofs.settings.lines.last_place.Goals as goal

pub loop-at-init : goal.loop-at-init
loop-at-init c = λ other h k p. absurd (omega arith)

pub returns-then-is_place-clause-later : goal.returns-then-is_place-clause-later
returns-then-is_place-clause-later c = λ other h k p. c.loop-at.invariant other (omega arith) k p

pub loop-at-preserved : goal.loop-at-preserved
loop-at-preserved c =
    none_from_before (IsPlace c.args.key.now c.args.text.now) c.loop-at.at c.args.end c.loop-at.invariant
    (λ p. let no : ⊥ = cc (c.if-is_place.false, c.is_place.ensures.1 p) in no)

pub returns-clause-none : goal.returns-clause-none
returns-clause-none c = λ other k p. c.loop-at.invariant other (omega arith) k p

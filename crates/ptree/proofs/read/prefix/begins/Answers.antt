use Rattle.std.proofs.lemmas.Bool.{eq-eqb}
use Rattle.ptree.proofs.Reading.PrefixVectors.{begins_none}
use Rattle.ptree.proofs.read.prefix.begins.Goals as goal

pub returns-then-width-eq0 : goal.returns-then-width-eq0
returns-then-width-eq0 c = (λ _. begins_none c.args.prefix.now c.args.text.now c.if-width-eq0.true, λ _. eq-eqb _ _ c.if-width-eq0.true)

use Rattle.std.proofs.Common.{subst, sym, IfSome}
use Rattle.ptree.specs.Codes.{IsOfEight}
use Rattle.ptree.proofs.Styles.ColorNames.{named_is_of_eight}
use Rattle.ptree.proofs.style.tone.color_tone.Goals as goal

pub returns-in-Named-clause-eight : goal.returns-in-Named-clause-eight
returns-in-Named-clause-eight c = subst (λ tone. IfSome tone IsOfEight) (sym c.named_tone.ensures) (named_is_of_eight _)

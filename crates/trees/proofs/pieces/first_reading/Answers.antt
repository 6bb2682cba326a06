use Rattle.trees.proofs.Common.{All, ◌∙◌, sym, subst, take_all, false≢true, All-more, config_of}
use Rattle.trees.specs.declared.pieces.Pieces.TheVariants.{Utf}
use Rattle.trees.specs.Named.{IsReadWith}
use Rattle.trees.proofs.pieces.first_reading.Goals as goal

pub loop-pieces-preserved : goal.loop-pieces-preserved
loop-pieces-preserved c =
    All-more (λ p. IsReadWith (config_of c.args.config.now) c.args.text.now p → ⊥) c.args.all.now c.loop-pieces.pieces-index Utf c.loop-pieces-test.true c.loop-pieces.invariant
    (λ is. false≢true (sym c.if-branch.false ∙ c.in_ok-is_read_with.ensures.1 is))

pub returns : goal.returns
returns c = subst (All (λ p. IsReadWith (config_of c.args.config.now) c.args.text.now p → ⊥)) (take_all c.loop-pieces.pieces-index c.args.all.now c.loop-pieces-test.false) c.loop-pieces.invariant

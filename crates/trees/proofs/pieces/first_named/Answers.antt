use Rattle.trees.proofs.Common.{◌≢◌, All, get_or, subst, take_all, rules, All-more}
use Rattle.trees.specs.declared.pieces.Pieces.TheVariants.{Utf}
use Rattle.trees.specs.Named.{piece_name}
use Rattle.trees.proofs.pieces.first_named.Goals as goal

pub loop-pieces-preserved : goal.loop-pieces-preserved
loop-pieces-preserved c =
    let differs : c.args.name.now ≢ piece_name (get_or c.args.all.now c.loop-pieces.pieces-index Utf) = search rules in
    All-more (λ p. c.args.name.now ≢ piece_name p) c.args.all.now c.loop-pieces.pieces-index Utf c.loop-pieces-test.true c.loop-pieces.invariant differs

pub returns : goal.returns
returns c = subst (All (λ p. c.args.name.now ≢ piece_name p)) (take_all c.loop-pieces.pieces-index c.args.all.now c.loop-pieces-test.false) c.loop-pieces.invariant

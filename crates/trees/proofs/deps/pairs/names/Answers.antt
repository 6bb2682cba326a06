use Rattle.std.proofs.Common.{◌∙◌, [], ◌∷◌, ap, take_all, flat_map}
use Rattle.trees.proofs.SortedWords.{names_are}
use Rattle.trees.proofs.deps.pairs.names.Goals as goal

pub returns : goal.returns
returns c =
    names_are c.args.pairs.now c.loop-first.names.items _ c.dedup.new.self.items (c.loop-first.invariant ∙ ap (flat_map (λ p. p.0 ∷ p.1 ∷ [])) (take_all c.loop-first.first-index c.args.pairs.now c.loop-first-test.false))
    c.sort_unstable.ensures.permutation c.sort_unstable.ensures.sorted c.dedup.ensures.filtered

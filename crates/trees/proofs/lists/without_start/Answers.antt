use Rattle.trees.proofs.Common.{◌≡◌, ◌∙◌, ℕ, List, [], ◌∷◌, ap, sym, arith, rules, names}
use Rattle.trees.specs.Listing.{from_first}
use Rattle.trees.proofs.PathNames.{skip_start, behind_shorter, start_done}
use Rattle.trees.proofs.lists.without_start.Goals as goal

pub loop-more-smaller : goal.loop-more-smaller
loop-more-smaller c = let less = behind_shorter c.loop-more.rest.now c.in-Some.more.now c.in-Some.ensures in omega (arith, less)

pub loop-more-preserved : goal.loop-more-preserved
loop-more-preserved c = (search rules, skip_start c.loop-more.rest.now c.in-Some.more.now c.in-Some.ensures ∙ c.loop-more.invariant.1)

pub returns-then-eq : goal.returns-then-eq
returns-then-eq c =
    let dot : c.loop-more.rest.now ≡ 46 ∷ [] = search rules in
    let none : [] ≡ from_first (names 47 c.args.path.now) = sym (ap (λ (p : List ℕ). from_first (names 47 p)) dot) ∙ c.loop-more.invariant.1 in
    search (rules, none)

pub returns-else-eq : goal.returns-else-eq
returns-else-eq c =
    start_done c.loop-more.rest.now c.in_default.ensures (search rules) ∙ c.loop-more.invariant.1

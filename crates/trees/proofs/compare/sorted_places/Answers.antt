use Rattle.trees.proofs.Common.{◌≡◌, ◌<◌, ◌++◌, [], ◌∷◌, Some, length, sym, arith, rules, All-permutation}
use Rattle.std.proofs.lemmas.List.Elements.{All-push, All-same}
use Rattle.trees.specs.MergingParts.{Place, text_at}
use Rattle.trees.proofs.MergePlaces.{has_more, has_sorted, text_there}
use Rattle.trees.proofs.compare.sorted_places.Goals as goal

pub loop-i-preserved : goal.loop-i-preserved
loop-i-preserved c =
    let items = c.args.items.now in
    let i = c.loop-i.i in
    let old = c.loop-i.places.items in
    let is_there : Place → Type 0 = λ p. text_at items p.1 ≡ Some p.0.now in
    let within : i < length items = omega arith in
    let pushed : c.push.new.self.items ≡ old ++ (c.as_str.result, i) ∷ [] = search rules in
    let here = text_there items i c.index-items-i.result c.as_str.result.now within c.index-items-i.is (sym c.as_str.ensures.value) in
    record {
      there = All-same is_there c.push.new.self.items _ pushed (All-push is_there old (c.as_str.result, i) c.loop-i.invariant.there here);
      all = has_more items i old c.push.new.self.items c.as_str.result pushed here c.loop-i.invariant.all;
    }

pub returns-clause-places : goal.returns-clause-places
returns-clause-places c = record {
  there = All-permutation (λ (p : Place). text_at c.args.items.now p.1 ≡ Some p.0.now) c.loop-i.places.items c.sort_unstable.new.self.items c.sort_unstable.ensures.permutation c.loop-i.invariant.there;
  ascending = c.sort_unstable.ensures.sorted;
}

pub returns-clause-all : goal.returns-clause-all
returns-clause-all c = has_sorted c.args.items.now c.loop-i.i c.loop-i.places.items c.sort_unstable.new.self.items (omega arith) c.sort_unstable.ensures.permutation c.loop-i.invariant.all

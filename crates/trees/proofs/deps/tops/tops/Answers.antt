use Rattle.trees.proofs.Common.{◌≡◌, ◌<◌, ◌∙◌, length, ap, subst, sym, rules, All, Contains, All-permutation}
use Rattle.trees.specs.DependingParts.{labels_of, AreFirsts}
use Rattle.trees.proofs.Tops.{firsts_below, keys_within, tops_are}
use Rattle.trees.proofs.deps.tops.tops.Goals as goal

pub returns : goal.returns
returns c =
    let network = c.args.network.now in
    let keys = network.sorted.keys in
    let n = length (labels_of network) in
    let nodes = c.in_ok-nodes.nodes.items in
    let firsts = c.in_ok-firsts.firsts.items in
    let turned = c.reverse.new.self.items in
    let tops = c.in_ok-tops.tops.items in
    let count : length c.deref.result.now ≡ n = ap length c.deref.ensures.value ∙ c.in_ok-needed.ensures in
    let first-nodes : c.deref-2.result.now ≡ nodes = search rules in
    let second-nodes : c.deref-3.result.now ≡ turned = search rules in
    let low : All (λ t. t < n) nodes = subst (λ k. All (λ t. t < k) nodes) count c.in_ok-nodes.ensures.nodes in
    let first : All (Contains nodes) firsts = subst (λ ns. All (Contains ns) firsts) first-nodes c.in_ok-firsts.ensures.nodes in
    let turned-low = All-permutation (λ t. t < n) firsts turned c.reverse.ensures.permutation (firsts_below n nodes firsts low first) in
    let second : All (Contains turned) tops = subst (λ ns. All (Contains ns) tops) second-nodes c.in_ok-tops.ensures.nodes in
    record {
      nodes = All-permutation (λ t. t < n) tops c.reverse-2.new.self.items c.reverse-2.ensures.permutation (firsts_below n turned tops turned-low second);
      tops = λ whole.
          let within = keys_within network whole in
          tops_are network nodes firsts turned tops (λ i l. c.in_ok-nodes.ensures.all i (subst (λ k. i < k) (sym count) l))
          (subst (λ ns. AreFirsts keys ns firsts) first-nodes (c.in_ok-firsts.ensures.firsts within (subst (All (λ t. t < n)) (sym first-nodes) low))) c.reverse.ensures.items
          (subst (λ ns. AreFirsts keys ns tops) second-nodes (c.in_ok-tops.ensures.firsts within (subst (All (λ t. t < n)) (sym second-nodes) turned-low))) c.reverse-2.new.self.items c.reverse-2.ensures.items whole.indexed;
    }

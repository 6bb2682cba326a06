use Rattle.trees.proofs.Common.{◌≡◌, ◌<◌, [], ◌++◌, ℕ, List, Bool, true, false, codes, length, get_or, map, refl, sym, ap, ◌∙◌, string_bytes, subst, arith, rules, false≢true}
use Rattle.std.proofs.lemmas.List.{get_or-map, length-map}
use Rattle.trees.specs.Expected.{AddsListed, IsFlagged}
use Rattle.trees.proofs.Beginnings.{flagged_none, next_flagged}
use Rattle.trees.proofs.DistinctTexts.{adds_none, adds_one}
use Rattle.trees.proofs.expected.listed.Goals as goal
use Rattle.trees.proofs.expected.listed.Goals.{then-flags-i+in_ok-write, else-flags-i}

pub loop-i-init : goal.loop-i-init
loop-i-init c =
    let texts : List (List ℕ) = map string_bytes c.args.prefixes.now in
    let Is : List ℕ → Type 0 = IsFlagged texts c.args.flags.now 0 in
    subst (λ z. AddsListed Is [] z) (sym c.new-listed.ensures.bytes) (adds_none Is [] (flagged_none texts c.args.flags.now))

pub loop-i-preserved : goal.loop-i-preserved
loop-i-preserved c =
    let texts : List (List ℕ) = map string_bytes c.args.prefixes.now in
    let flags : List Bool = c.args.flags.now in
    let i : ℕ = c.loop-i.i in
    let inside : i < length c.args.prefixes.now = c.loop-i-test.true in
    let text : List ℕ = string_bytes c.index-prefixes-i.result in
    let is : text ≡ get_or texts i [] = ap string_bytes c.index-prefixes-i.is ∙ sym (get_or-map string_bytes c.args.prefixes.now i c.index-prefixes-i.result [] inside) in
    let Is : List ℕ → Type 0 = λ x. (get_or flags i false ≡ true) × (x ≡ text) in
    let old : List ℕ = string_bytes c.loop-i.listed in
    let added : AddsListed Is old (string_bytes c.if-flags-i.listed) =
    elim c.if-flags-i.branch [
      | then-flags-i+in_ok-write w ↦
          let wrote : string_bytes w.write.new.self ≡ old ++ (codes "\n  " ++ text) = search rules in
          let set : get_or flags i false ≡ true = search (rules, w.if-flags-i.true) in
          adds_one Is old (string_bytes c.if-flags-i.listed) text (ap string_bytes w.listed-is ∙ wrote) (set, refl) (λ x so. so.1)
      | else-flags-i w ↦
          let unset : get_or flags i false ≡ false = search (rules, w.if-flags-i.false) in
          subst (λ s. AddsListed Is old (string_bytes s)) (sym w.listed-is) (adds_none Is old (λ x so. false≢true (sym unset ∙ so.0)))
    ] in
    next_flagged texts flags c.requires.each_once i text (rw length-map inside) is old (string_bytes c.if-flags-i.listed) c.loop-i.invariant added

pub returns : goal.returns
returns c =
    let texts : List (List ℕ) = map string_bytes c.args.prefixes.now in
    let end : c.loop-i.i ≡ length c.args.flags.now = omega (arith, c.loop-i.auto.i-end, c.loop-i-test.false, c.requires.count) in
    subst (λ n. AddsListed (IsFlagged texts c.args.flags.now n) [] (string_bytes c.loop-i.listed)) end c.loop-i.invariant

use Rattle.std.proofs.Common.{◌≡◌, ◌∙◌, ℕ, List, length, map, subst, string_bytes, arith, All}
use Rattle.std.proofs.lemmas.List.{length-map, take_all}
use Rattle.trees.specs.declared.deps.Need.{Need}
use Rattle.trees.specs.Depending.{ends, IsWithin}
use Rattle.trees.proofs.Networks.{within_more}
use Rattle.trees.proofs.deps.are_within.Goals as goal

pub loop-need-preserved : goal.loop-need-preserved
loop-need-preserved c =
    within_more c.len-count.result c.deref-need-items.result.now c.loop-need.need-index (record { needing = 0; needed = 0 }) c.loop-need-test.true c.loop-need.invariant (c.if-need-count.false, c.if-need-count-2.false)

pub returns : goal.returns
returns c = λ _.
    let labels = c.args.packages.now.labels.items in
    let needs = c.deref-need-items.result.now in
    let all = subst (λ (ns : List Need). All (IsWithin c.len-count.result) (map ends ns)) (take_all c.loop-need.need-index needs c.loop-need-test.false ∙ c.deref-need-items.ensures.value) c.loop-need.invariant in
    let count : c.len-count.result ≡ length (map string_bytes labels) = omega (arith, length-map labels string_bytes) in
    subst (λ (n : ℕ). All (IsWithin n) (map ends c.args.packages.now.needs.items)) count all

use Rattle.std.proofs.Common.{◌≡◌, ℕ, suc, ◌-◌, ◌<◌, List, length, length-set, drop, drop-cons, get_or, refl, sym, ap, ◌∙◌, subst, arith}
use Rattle.ptree_c.specs.Outlines.{AreLater, AreLastFlags}
use Rattle.ptree_c.specs.declared.items.Item.{Item}
use Rattle.ptree_c.proofs.Later.{steps_at, flags_put}
use Rattle.ptree_c.proofs.Outlined.{no_item}
use Rattle.ptree_c.proofs.outline.last_flags.Goals as goal

pub is_last-requires : goal.is_last-requires
is_last-requires c =
    let n : ℕ = c.loop-place.place - 1 in
    let within : n < length c.args.items.now = omega (arith, c.loop-place-test.true, c.loop-place.invariant.within) in
    let low = (steps_at c.args.deepest c.args.items.now n no_item within c.requires).0 in
    omega (arith, low, c.loop-place.invariant.room, ap length c.deref.ensures.value)

pub put_level-requires : goal.put_level-requires
put_level-requires c =
    let n : ℕ = c.loop-place.place - 1 in
    let within : n < length c.args.items.now = omega (arith, c.loop-place-test.true, c.loop-place.invariant.within) in
    let low = (steps_at c.args.deepest c.args.items.now n no_item within c.requires).0 in
    omega (arith, low, c.loop-place.invariant.room)

pub loop-place-preserved : goal.loop-place-preserved
loop-place-preserved c =
    let inv = c.loop-place.invariant in
    let items = c.args.items.now in
    let n : ℕ = c.loop-place.place - 1 in
    let within : n < length items = omega (arith, c.loop-place-test.true, inv.within) in
    let next : c.loop-place.place ≡ suc n = omega (arith, c.loop-place-test.true) in
    let behind = subst (λ k. AreLater c.loop-place.later.items (drop k items)) next inv.later in
    let flags = subst (λ k. AreLastFlags (drop k items) (drop k c.loop-place.flags.items)) next inv.flags in
    let steps = steps_at c.args.deepest items n no_item within c.requires in
    record {
      within = omega (arith, within);
      long = length-set c.loop-place.flags.items n c.is_last.result ∙ inv.long;
      room = c.put_level.ensures.length ∙ inv.room;
      later = subst (λ (z : List Item). AreLater c.put_level.new.later.items z) (sym (drop-cons items n no_item within))
          (c.put_level.ensures.later c.args.deepest (get_or items n no_item) (drop (suc n) items) refl steps.1 behind);
      flags = flags_put items c.loop-place.flags.items n c.is_last.result no_item within inv.long (c.is_last.ensures (drop (suc n) items) (subst (λ (z : List ℕ). AreLater z (drop (suc n) items)) (sym c.deref.ensures.value) behind)) flags;
    }

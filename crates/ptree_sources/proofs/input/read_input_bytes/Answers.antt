use Rattle.std.proofs.Common.{◌≡◌, ◌+◌, rules, take, length, sym, ap, subst, ◌∙◌, le_refl, take_all}
use Rattle.std.specs.Io.KnownBytes.{Consumes}
use Rattle.ptree_sources.proofs.Inputs.{consumed_more}
use Rattle.ptree_sources.proofs.input.read_input_bytes.Goals as goal

pub loop-room-preserved-in-Continue-branch-3 : goal.loop-room-preserved-in-Continue-branch-3
loop-room-preserved-in-Continue-branch-3 g c =
    let before = c.loop-room.invariant in
    let old = c.read_at.new.room.items in
    let full : c.loop-room.filled + c.in_ok-n.n ≡ length old = search rules in
    let read = consumed_more _ _ _ c.loop-room.room.items old c.loop-room.filled c.in_ok-n.n c.read_at.ensures.front before.1 c.in_ok-n.ensures.bytes in
    let same = ap (λ k. take k old) full ∙ take_all (length old) old (le_refl _) ∙ sym c.in_ok-enlarge.ensures.front ∙ ap (λ k. take k c.enlarge.new.room.items) (sym full) in
    (search rules, subst (Consumes _ _) same read, search rules)

pub loop-room-preserved : goal.loop-room-preserved
loop-room-preserved g c =
    let before = c.loop-room.invariant in (
      search rules,
      consumed_more _ _ _ c.loop-room.room.items c.read_at.new.room.items c.loop-room.filled c.in_ok-n.n c.read_at.ensures.front before.1 c.in_ok-n.ensures.bytes,
      search rules,
    )

use Rattle.std.proofs.Common.{◌≡◌, ◌-◌, ◌++◌, ℕ, [], length, take, drop, ap, ◌∙◌, arith}
use Rattle.std.proofs.lemmas.List.{take_all, drop_all, length-drop}
use Rattle.ptree_c.specs.Rooms.{filled}
use Rattle.ptree_c.proofs.Rooms.{filled_more}
use Rattle.ptree_c.proofs.room.put_part.Goals as goal

pub returns : goal.returns
returns c = λ room before is.
    let out = c.args.out.now in
    let at = c.args.at in
    let bytes = c.args.bytes.now in
    let left : ℕ = length out - at in
    let mid : take left (drop at out) ≡ drop at out = take_all left (drop at out) (omega (arith, length-drop at out)) in
    let behind : drop left (drop at out) ≡ [] = drop_all left (drop at out) (omega (arith, length-drop at out)) in
    ap (λ z. take at out ++ (z ++ drop left (drop at out))) (c.fill.ensures ∙ ap (λ z. filled z bytes) mid)
    ∙ (ap (λ z. take at out ++ (filled (drop at out) bytes ++ z)) behind ∙ filled_more room before bytes out at is c.requires)

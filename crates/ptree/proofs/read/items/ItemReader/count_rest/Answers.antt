use Rattle.std.proofs.Common.{◌∙◌, ◌+◌, ◌<◌, ◌∷◌, ◌++◌, [], length-append, append_assoc, ap, arith, subst}
use Rattle.ptree.specs.ItemReader.{HasRead, bytes_left}
use Rattle.ptree.specs.ReadItems.{item_line}
use Rattle.ptree.proofs.read.items.ItemReader.count_rest.Goals as goal

pub loop-item-preserved : goal.loop-item-preserved
loop-item-preserved c = record {
  few = let left : bytes_left c.advance.new.self < bytes_left c.loop-item.self = rw c.in-Some.is at c.in_ok-_item.ensures.left in omega (arith, c.loop-item.invariant.few, left);
  read = λ look depth x done h.
      let (rest, count, here) = c.loop-item.invariant.read look depth x done h in
      let item = item_line c.in-Some._item in
      let next : HasRead look depth x c.advance.new.self ((done ++ rest) ++ item ∷ []) = rw c.in-Some.is at c.in_ok-_item.ensures.next look depth x (done ++ rest) here in
      (rest ++ item ∷ [], length-append rest (item ∷ []) ∙ ap (λ n. n + 1) count, subst (HasRead look depth x c.advance.new.self) (append_assoc done rest (item ∷ [])) next);
}

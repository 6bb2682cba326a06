use Rattle.std.proofs.Common.{refl, rules}
use Rattle.ptree_c.proofs.ItemsRead.{one_read}
use Rattle.ptree_c.proofs.read.flat_items.Goals as goal

pub overflow_cast-item : goal.overflow_cast-item
overflow_cast-item c = search (rules, (one_read c.in-Some.item _ _ _ c.loop-texts.invariant c.in_ok-item.ensures.next c.in-Some.is refl refl refl).0)

pub loop-texts-preserved : goal.loop-texts-preserved
loop-texts-preserved c =
    (one_read c.in-Some.item c.push.new.self.items c.extend_from_slice.new.self.items c.len.result c.loop-texts.invariant c.in_ok-item.ensures.next c.in-Some.is (search rules) (search rules) (search rules)).1

pub loop-texts-preserved-in_ok-push : goal.loop-texts-preserved-in_ok-push
loop-texts-preserved-in_ok-push c =
    (one_read c.in-Some.item c.push.new.self.items c.extend_from_slice.new.self.items c.len.result c.loop-texts.invariant c.in_ok-item.ensures.next c.in-Some.is (search rules) (search rules) (search rules)).1

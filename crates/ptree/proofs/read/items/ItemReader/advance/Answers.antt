use Rattle.std.proofs.Common.{Ok, length, subst, sym}
use Rattle.ptree.specs.Scanned.{IsError, IsItemEnd}
use Rattle.ptree.proofs.Reading.ItemsRead.{before_item, by_names, first_items}
use Rattle.ptree.proofs.read.items.ItemReader.advance.Goals as goal

pub returns-in-Err-clause-next : goal.returns-in-Err-clause-next
returns-in-Err-clause-next g c look depth x done h =
    by_names (λ k d y. IsError k d y c.in-Err.error) look depth x c.args.self.now done h (c.in-Err.ensures.end done (before_item look depth x c.args.self.now done c.in-Some.own h c.in-Some.is))

pub returns-in-Ok-clause-next : goal.returns-in-Ok-clause-next
returns-in-Ok-clause-next g c look depth x done h =
    let place = c.read_or_close.new.place in
    let path = c.read_or_close.new.path in
    let s = before_item look depth x c.args.self.now done c.in-Some.own h c.in-Some.is in
    let end : IsItemEnd look depth x done c.level-level.result place path (Ok c.in-Ok.field-0) =
    subst (λ n. IsItemEnd look depth x done n place path (Ok c.in-Ok.field-0)) (sym c.level-level.ensures)
    (by_names (λ k d y. IsItemEnd k d y done (length c.args.self.now.path.flags.items) place path (Ok c.in-Ok.field-0)) look depth x c.args.self.now done h (c.in-Ok.ensures.end done s)) in
    record {
      look_is = h.look_is;
      depth_is = h.depth_is;
      text_is = h.text_is;
      readable = h.readable;
      first = first_items look depth x _ place path _ h.readable end;
      stands = end;
    }

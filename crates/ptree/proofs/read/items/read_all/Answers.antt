use Rattle.std.proofs.Common.{◌∙◌, ◌∷◌, ◌++◌, [], ap, map, subst, sym}
use Rattle.std.proofs.lemmas.List.{map-append}
use Rattle.ptree.specs.Drawing.{written_look}
use Rattle.ptree.specs.ItemReader.{HasRead}
use Rattle.ptree.specs.ReadItems.{item_line}
use Rattle.ptree.proofs.read.items.read_all.Goals as goal

pub loop-reader-preserved : goal.loop-reader-preserved
loop-reader-preserved c =
    let config = c.args.config.now in
    let lines = map item_line c.loop-reader.items.items in
    let next : HasRead (written_look config) config.depth c.args.text.now c.next_item.new.self (lines ++ item_line c.in-Some.item ∷ []) =
    rw c.in-Some.is at c.in_ok-item.ensures.next (written_look config) config.depth c.args.text.now lines c.loop-reader.invariant in
    subst (HasRead (written_look config) config.depth c.args.text.now c.next_item.new.self) (sym (ap (map item_line) c.in_ok-push.ensures.items ∙ map-append item_line c.loop-reader.items.items (c.in-Some.item ∷ []))) next

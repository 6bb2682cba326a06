use Rattle.std.proofs.Common.{ℕ, List, [], ◌∷◌, ◌++◌, ap, sym}
use Rattle.ptree.specs.Drawing.{written_look}
use Rattle.ptree.specs.ItemReader.{HasRead}
use Rattle.ptree.specs.Outline.{Line}
use Rattle.ptree.specs.ReadItems.{item_line}
use Rattle.examples.proofs.reading.root_text.Goals as goal

-- the text of the first line
first_text : List Line → List ℕ
first_text [] = []
first_text (l ∷ lines) = l.text

pub returns : goal.returns
unfolding first_text
returns c t form =
    let config = c.args.config.now in
    let read : HasRead (written_look config) config.depth c.args.text.now c.next_item.new.self ([] ++ item_line c.in-Some.item ∷ []) =
    rw c.in-Some.is at c.in_ok-item.ensures.next (written_look config) config.depth c.args.text.now [] c.in_ok-reader.ensures.start in
    let (more, is) = read.first t form in
    sym (ap first_text is)

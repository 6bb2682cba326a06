use Rattle.std.proofs.Common.{map}
use Rattle.ptree.specs.Drawing.{written_look}
use Rattle.ptree.specs.ReadItems.{item_line}
use Rattle.ptree.proofs.Reading.Scanning.{reading_drawn}
use Rattle.ptree.proofs.read.read_items.Goals as goal

pub returns-clause-drawn : goal.returns-clause-drawn
returns-clause-drawn c = reading_drawn (λ v. map item_line v.items) (written_look c.args.config.now) c.args.config.now.depth c.args.text.now c.read_all.result c.requires c.read_all.ensures

use Rattle.std.proofs.Common.{map}
use Rattle.ptree.specs.Style.{painted_text}
use Rattle.ptree.proofs.Trees.Shapes.{kids_of_over}
use Rattle.ptree.proofs.item.root.RootTreeItem.children.Goals as goal

pub returns-clause-shapes : goal.returns-clause-shapes
returns-clause-shapes g c = kids_of_over (λ style. painted_text style c.args.self.now.text.now) (map g.C.Shaped.shape c.args.self.now.children.now)

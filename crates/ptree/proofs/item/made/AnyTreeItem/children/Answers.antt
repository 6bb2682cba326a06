use Rattle.std.proofs.Common.{◌≡◌, ◌∙◌, ap, map}
use Rattle.std.proofs.lemmas.Result.{IfOk-weaker}
use Rattle.ptree.specs.Children.{children_of}
use Rattle.ptree.specs.Item.{text_own, text_shape}
use Rattle.ptree.specs.Shape.{kids}
use Rattle.ptree.proofs.Trees.ItemTrees.{map_twice}
use Rattle.ptree.proofs.Trees.Shapes.{kids_of_unfold}
use Rattle.ptree.proofs.item.made.AnyTreeItem.children.Goals as goal

pub returns : goal.returns
returns g c =
    let item = g.T.MadeItem in
    let shape = text_shape item.text_of item.below_of in
    let self = item.seen c.args.self.now in
    IfOk-weaker c.below.result
    (λ v. map item.seen (children_of v) ≡ item.below_of self)
    (λ v. map (λ x. shape (item.seen x)) (children_of v) ≡ kids (shape self))
    (λ v h. map_twice item.seen shape (children_of v) ∙ ap (map shape) h ∙ kids_of_unfold (text_own item.text_of) item.below_of self)
    c.below.ensures

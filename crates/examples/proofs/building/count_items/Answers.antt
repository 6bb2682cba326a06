use Rattle.std.proofs.Common.{◌≡◌, ap, arith, length, map, refl}
use Rattle.std.proofs.lemmas.List.{length-map}
use Rattle.ptree.specs.Outline.{outline}
use Rattle.ptree.specs.Tree.{tree_of}
use Rattle.ptree.proofs.Trees.OutlineItems.{item_line, item_tree, lines_of_items}
use Rattle.examples.proofs.building.count_items.Goals as goal

pub returns : goal.returns
returns c =
    let items = c.in_ok-items.items.items in
    let t = tree_of c.args.tree.now in
    let lines : map item_line items ≡ outline t = lines_of_items item_tree items items t refl c.in_ok-items.ensures in
    omega (arith, c.len.ensures, c.in_ok-items.items.ok.0, length-map items item_line, ap length lines)

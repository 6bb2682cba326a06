use Rattle.std.proofs.Common.{◌∙◌, ◌-◌, [], ap, sym, map}
use Rattle.std.proofs.lemmas.List.{append-nil}
use Rattle.ptree.specs.Data.{value_pairs, pair_own, pair_below, pair_shape}
use Rattle.ptree.specs.Entries.{entries_below}
use Rattle.ptree.specs.Looks.{look_of}
use Rattle.ptree.specs.Parts.{part_of, node_pair_of}
use Rattle.ptree.specs.Style.{start_codes}
use Rattle.ptree.proofs.Drawing.Engine.{all_below}
use Rattle.ptree.proofs.Trees.Shapes.{kids_of_unfold}
use Rattle.ptree.proofs.value.row.DocumentTopDrawn.draw_below.Goals as goal

pub returns-clause-bytes : goal.returns-clause-bytes
returns-clause-bytes g c =
    let look = look_of c.args.brush.now.look in
    let pair = node_pair_of c.args.self.now.0 in
    all_below look (entries_below look (c.args.depth - 1)) [] (pair_shape pair) _ _ _ _ pair_shape (value_pairs (part_of c.part.result.now))
    (ap (map pair_shape) c.part.ensures ∙ kids_of_unfold pair_own pair_below pair)
    (c.draw_row.ensures.bytes [] (c.requires.start ∙ sym (append-nil (start_codes look.branch))))

use Rattle.trees.proofs.Common.{◌≡◌, ◌∙◌, ◌++◌, append_assoc, map, rules, string_bytes, option_map, read_text_of}
use Rattle.trees.specs.declared.compare.Side.TheVariants.{Left, Right}
use Rattle.trees.specs.Merging.{way_text, place_line, side_line}
use Rattle.trees.proofs.compare.first.Goals as goal

pub returns : goal.returns
returns c = λ t u is.
    let d = c.args.found.now in
    let said : string_bytes c.push_side-2.new.said ≡ (((string_bytes c.new-said.result ++ way_text (map read_text_of d.above.items)) ++ place_line d.address.items) ++ side_line Left (option_map read_text_of d.left)) ++ side_line Right (option_map read_text_of d.right) = search rules in
    (d.address.items, is.differ, is.least, said ∙ rw (c.new-said.ensures.bytes, is.above_are, is.left_is, is.right_is) (simp append_assoc))

use Rattle.std.specs.Prelude.{option_map}
use Rattle.std.proofs.Common.{◌∙◌, Some, None, get_or, ap, sym, arith}
use Rattle.ptree.specs.Tree.{tree_of}
use Rattle.ptree.proofs.Trees.ItemTrees.{child_there, child_not_there, at_next_position}
use Rattle.ptree.proofs.item.StringItem.at_address.Goals as goal

pub returns-in_err-item : goal.returns-in_err-item
returns-in_err-item c =
    let a = c.args.address.now in
    let i = c.loop-position.position-index in
    let item = c.loop-position.item.now in
    let none = child_not_there item c.deref.result.now (get_or a i 0) c.deref.ensures.value (omega (arith, c.in_err-item.ensures.lookup)) in
    ap (option_map (λ s. tree_of s.now)) c.from_residual.ensures ∙ sym (at_next_position (tree_of item) a i None c.loop-position-test.true none) ∙ c.loop-position.invariant

pub loop-position-preserved : goal.loop-position-preserved
loop-position-preserved c =
    let a = c.args.address.now in
    let i = c.loop-position.position-index in
    let item = c.loop-position.item.now in
    let child = c.in_ok-item.item.now in
    let found = c.in_ok-item.ensures.lookup in
    let there = child_there item c.deref.result.now (get_or a i 0) child c.deref.ensures.value (omega (arith, found)) found.1 in
    sym (at_next_position (tree_of item) a i (Some (tree_of child)) c.loop-position-test.true there) ∙ c.loop-position.invariant

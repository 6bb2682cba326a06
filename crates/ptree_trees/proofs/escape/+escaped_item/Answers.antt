use Rattle.std.proofs.Common.{◌≡◌, string_bytes, ap, ◌∙◌}
use Rattle.ptree.specs.declared.item.StringItem.{out-StringItem}
use Rattle.ptree_trees.specs.Escape.{escaped_text}
use Rattle.ptree_trees.proofs.EscapedTrees.{whole_mapped}
use Rattle.ptree_trees.proofs.escape.+escaped_item.Goals as goal

pub returns : goal.returns
returns t c =
    let text : string_bytes c.in_ok-escaped.field-0 ≡ escaped_text (string_bytes (out-StringItem c.args.item.now).text) = c.in_ok-escaped.ensures.text ∙ ap escaped_text c.as_str.ensures.value in
    whole_mapped escaped_text c.args.item.now (record { text = c.in_ok-escaped.field-0; children = c.loop-child.children }) c.deref-child-items.result.now c.loop-child.child-index
    c.deref-child-items.ensures.value c.loop-child-test.false text c.loop-child.invariant

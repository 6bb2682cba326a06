use Rattle.std.proofs.Common.{arith, map, string_bytes}
use Rattle.std.proofs.lemmas.List.{map-append}
use Rattle.ptree.specs.Outline.{line}
use Rattle.ptree.specs.PartialTree.{text_line}
use Rattle.ptree.proofs.Trees.Steps.{Steps-push, last_level-push}
use Rattle.ptree.proofs.builder.TreeBuilder.add_at_level.Goals as goal

pub invariant_of-self-2 : goal.invariant_of-self-2
invariant_of-self-2 c =
    let old = map text_line c.self.inside.lines.items in
    let inside = c.self.invariant in
    rw (c.in_ok-push.ensures.items, map-append)
    (Steps-push 0 old (line c.args.level (string_bytes c.args.text)) inside.0 (omega (arith, c.if-level-eq0.false)) (omega (arith, inside.1, c.if-level-self.false)), rw last_level-push (omega arith))

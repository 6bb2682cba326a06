use Rattle.std.proofs.Common.{◌≡◌, ◌++◌, ℕ, List, [], map, subst, string_bytes, rules, take_all, Bor}
use Rattle.trees.specs.Outlining.{text_of_lines}
use Rattle.trees.proofs.Outlines.{text_more}
use Rattle.trees.proofs.lists.outlines.push_lines.Goals as goal

pub loop-line-preserved : goal.loop-line-preserved
loop-line-preserved c =
    text_more (string_bytes c.args.text.now) (string_bytes c.loop-line.text) (string_bytes c.push_line.new.text) c.args.indent.now c.args.lines.now c.loop-line.line-index (record { ref_ptr = (0, 0); now = [] })
    c.loop-line-test.true c.loop-line.invariant (search rules)

pub returns : goal.returns
returns c =
    subst (λ (ls : List (Bor (List ℕ))). string_bytes c.loop-line.text ≡ string_bytes c.args.text.now ++ text_of_lines (map (λ l. c.args.indent.now ++ l.now) ls)) (take_all c.loop-line.line-index c.args.lines.now c.loop-line-test.false) c.loop-line.invariant

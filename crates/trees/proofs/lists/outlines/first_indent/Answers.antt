use Rattle.trees.proofs.Common.{◌≡◌, ◌∙◌, ℕ, true, false, List, [], get_or, map, sym, rules, Bor, at_drop_all, begins_blank}
use Rattle.trees.specs.Outlining.{line_indent, first_indent}
use Rattle.trees.proofs.Outlines.{indent_here, indent_later}
use Rattle.trees.proofs.lists.outlines.first_indent.Goals as goal

pub returns-then-is_indented : goal.returns-then-is_indented
returns-then-is_indented c =
    let lines = c.args.lines.now in
    let i = c.loop-line.line-index in
    let blank : begins_blank (get_or lines i (record { ref_ptr = (0, 0); now = [] })).now ≡ true = search rules in
    let here : line_indent (get_or lines i (record { ref_ptr = (0, 0); now = [] })).now ≡ first_indent (map (λ (l : Bor (List ℕ)). l.now) lines) =
    indent_here lines i (record { ref_ptr = (0, 0); now = [] }) c.loop-line-test.true blank c.loop-line.invariant in
    search (rules, here)

pub loop-line-preserved : goal.loop-line-preserved
loop-line-preserved c =
    let lines = c.args.lines.now in
    let i = c.loop-line.line-index in
    let other : begins_blank (get_or lines i (record { ref_ptr = (0, 0); now = [] })).now ≡ false = search rules in
    indent_later lines i _ c.loop-line-test.true other c.loop-line.invariant

pub returns : goal.returns
returns c =
    sym (at_drop_all (λ (ls : List (Bor (List ℕ))). first_indent (map (λ l. l.now) ls)) c.args.lines.now c.loop-line.line-index c.loop-line-test.false) ∙ c.loop-line.invariant

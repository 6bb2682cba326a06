use Rattle.trees.proofs.Common.{◌≡◌, ◌∙◌, ℕ, List, map, sym, rules, Bor, false≢true, IfOk-weaker, IfErr-weaker, Form}
use Rattle.ptree.specs.Tree.{Tree, tree_of}
use Rattle.trees.specs.Outlining.{text_of_lines, labelled_lines, IsFormWithin, HoldsOutline, HoldsNoOtherOutline, FailsToOutline}
use Rattle.trees.specs.Reading.{FailsToMake}
use Rattle.trees.proofs.Outlines.{form_is, IsTextOf, text_is, within_held, held_within, outline_fails, form_fails}
use Rattle.trees.proofs.lists.outlines.outline.Goals.{After-drop-text}
use Rattle.trees.proofs.lists.outlines.outline.Goals as goal

-- the unit and the bullet
abbrev made_form : After-drop-text → Form
made_form c = record { unit = c.unwrap_or.result; bullet = c.unwrap_or-2.result }

-- the text is made of the lines
abbrev IsMade : After-drop-text → Type 0
IsMade c = c.as_str.result.now ≡ text_of_lines (labelled_lines (made_form c) c.args.outline.label (map (λ (l : Bor (List ℕ)). l.now) c.in_ok-lines.lines.items))

-- so it is that of the outline
text_read : (c : After-drop-text) → IsMade c → IsTextOf c.args.source.now c.args.outline (made_form c) c.as_str.result.now
text_read c is =
    let outline = c.args.outline in
    let ls : List (List ℕ) = map (λ (l : Bor (List ℕ)). l.now) c.in_ok-lines.lines.items in
    text_is c.args.source.now outline (made_form c) ls c.as_str.result.now (search rules)
    (form_is outline ls c.unwrap_or.result c.unwrap_or-2.result c.first_indent.result c.first_bullet.result (search rules) (search rules) (search rules) (search rules)) is

pub returns-then-not-is_right-clause-failed : goal.returns-then-not-is_right-clause-failed
returns-then-not-is_right-clause-failed c =
    let outline = c.args.outline in
    let form : Form = record { unit = c.unwrap_or.result; bullet = c.unwrap_or-2.result } in
    let ls : List (List ℕ) = map (λ (l : Bor (List ℕ)). l.now) c.in_ok-lines.lines.items in
    form_fails c.args.source.now outline form ls c.in_ok-failure.field-0 (search rules)
    (form_is outline ls c.unwrap_or.result c.unwrap_or-2.result c.first_indent.result c.first_bullet.result (search rules) (search rules) (search rules) (search rules))
    (λ right. false≢true (sym c.if-not-is_right.true ∙ c.is_right.ensures.1 right)) c.in_ok-failure.ensures

pub returns : goal.returns
returns c =
    let source = c.args.source.now in
    let outline = c.args.outline in
    let form = made_form c in
    let text = c.as_str.result.now in
    let is = text_read c (search rules) in
    record {
      some = IfOk-weaker c.read_within.result (λ t. IsFormWithin form text (tree_of t)) (λ t. HoldsOutline source outline (tree_of t))
          (λ t within. within_held source outline form text (tree_of t) is within) c.read_within.ensures.some;
      only = IfOk-weaker c.read_within.result (λ t. (u : Tree) → IsFormWithin form text u → tree_of t ≡ u) (λ t. HoldsNoOtherOutline source outline (tree_of t))
          (λ t no u holds. no u (held_within source outline form text u is holds)) c.read_within.ensures.only;
      failed = IfErr-weaker c.read_within.result (FailsToMake ⊥ (IsFormWithin form text)) (FailsToOutline source outline)
          (λ e fails. outline_fails source outline form text e is fails) c.read_within.ensures.failed;
    }

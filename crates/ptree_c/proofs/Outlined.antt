-- The items of an outline, drawn as steps, are the drawing of its tree.
use Rattle.std.proofs.Common.{◌≡◌, ℕ, zero, suc, ◌+◌, ◌-◌, ◌<◌, ◌≤◌, ◌⊎◌, inl, inr, Bool, true, false, not, cond, ltb, List, [], ◌∷◌, ◌++◌, length, map, take, drop, get_or, refl, sym, ap, ◌∙◌, subst, append_assoc, add-one, drop-cons, arith}
use Rattle.std.proofs.lemmas.Bool.{cases_lt, lt-ltb, le-ltb}
use Rattle.std.proofs.lemmas.List.{append-nil}
use Rattle.ptree.specs.Drawing.{Look, IsDrawing}
use Rattle.ptree.specs.Flags.{has_later}
use Rattle.ptree.specs.GivenItems.{entry_behind, path_with}
use Rattle.ptree.specs.Outline.{Line, line, outline, outline_at, Steps}
use Rattle.ptree.specs.Reached.{AreWithin}
use Rattle.ptree.specs.Tree.{none, item, Forest, Tree, tree, height, cut_forest, cut_tree, shape_of_tree}
use Rattle.ptree.proofs.Drawing.CutTrees.{drawing_of_cut_tree}
use Rattle.ptree.proofs.Drawing.GivenLines.{draws_lines}
use Rattle.ptree.proofs.Trees.LineTrees.{tree_of_lines}
use Rattle.ptree.proofs.Trees.OutlineAddresses.{outline_of_tree}
use Rattle.ptree.proofs.Reading.SpelledForms.{height_low}
use Rattle.ptree_c.specs.Calls.{IsItemsDrawing}
use Rattle.ptree_c.specs.Items.{lines_from}
use Rattle.ptree_c.specs.Fields.{is_set}
use Rattle.ptree_c.specs.Outlines.{has_later_item, AreLastFlags, StepsDown, AreItems, AreRight, AreRightAfter, step_of, kept_before, kept_path, given_of, drawn_text, steps_from}
use Rattle.ptree_c.specs.Refusals.{IsTextBetween}
use Rattle.ptree_c.specs.Steps.{AreStepsOf, step_own}
use Rattle.ptree_c.specs.declared.items.Item.{Item}
use Rattle.ptree_c.specs.declared.steps.Step.{Step}
use Rattle.ptree_c.proofs.Given.{are_given}

-- a number is below another one, or not
pub low_or_deep : (depth level : ℕ) → (ltb depth level ≡ true) × (depth < level) ⊎ (ltb depth level ≡ false) × (level ≤ depth)
low_or_deep depth level = elim (cases_lt depth level) [ inl h ↦ inl (lt-ltb depth level h, h) | inr h ↦ inr (le-ltb depth level h, h) ]

-- the lines down to a depth
abbrev drawn_lines : ℕ → List Line → List Line
drawn_lines depth [] = []
drawn_lines depth (l ∷ o) = cond (ltb depth l.level) (drawn_lines depth o) (l ∷ drawn_lines depth o)

-- the lines of two lists
drawn_lines-append : (depth : ℕ) (a b : List Line) → drawn_lines depth (a ++ b) ≡ drawn_lines depth a ++ drawn_lines depth b
drawn_lines-append depth [] b = refl
drawn_lines-append depth (l ∷ a) b = grind (arith, drawn_lines-append depth a b)

-- a forest below the depth has no such line
no_lines : (depth n : ℕ) (f : Forest) → depth < n → drawn_lines depth (outline_at n f) ≡ []
no_lines depth n none h = refl
no_lines depth n (item t c r) h = rw (lt-ltb depth n h, drawn_lines-append depth (outline_at (suc n) c) (outline_at n r), no_lines depth (suc n) c (omega arith), no_lines depth n r h)

-- the outline of a cut forest is that of the forest, down to the cut
outline_cut : (d n depth : ℕ) (f : Forest) → depth ≡ n + d → outline_at (suc n) (cut_forest d f) ≡ drawn_lines depth (outline_at (suc n) f)
outline_cut d n depth none e = refl
outline_cut zero n depth (item t c r) e = sym (no_lines depth (suc n) (item t c r) (omega (arith, e)))
outline_cut (suc d) n depth (item t c r) e =
    let both = drawn_lines-append depth (outline_at (suc (suc n)) c) (outline_at (suc n) r) in
    rw (le-ltb depth (suc n) (omega (arith, e)), both, outline_cut d (suc n) depth c (omega (arith, e)), outline_cut (suc d) n depth r e)

-- later lines decide as the items do, down to the depth
later_drawn : (depth n from : ℕ) (texts : List ℕ) (items : List Item) → n ≤ depth → has_later (drawn_lines depth (lines_from from texts items)) n ≡ has_later_item items n
later_drawn depth n from texts [] h = refl
later_drawn depth n from texts (i ∷ items) h =
    let same = later_drawn depth n i.end texts items h in
    elim (low_or_deep depth i.level) [
      | inl (deep, below) ↦ rw (deep, same, lt-ltb n i.level (omega (arith, h, below))) refl
      | inr (drawn, low) ↦ rw (drawn, same) refl
    ]

-- the items that are drawn are those of the lines that are
steps_of_items : (depth from : ℕ) (texts : List ℕ) (items : List Item) (flags : List ℕ) → AreLastFlags items flags
    → AreStepsOf texts (drawn_lines depth (lines_from from texts items)) (steps_from depth from items flags)
steps_of_items depth from texts [] [] are = tt
steps_of_items depth from texts [] (f ∷ flags) are = absurd are
steps_of_items depth from texts (i ∷ items) [] are = absurd are
steps_of_items depth from texts (i ∷ items) (f ∷ flags) are =
    let below = steps_of_items depth i.end texts items flags are.1 in
    elim (low_or_deep depth i.level) [
      | inl (deep, h) ↦ rw deep below
      | inr (drawn, low) ↦ rw drawn (record { level = refl; text = refl; last = are.0 ∙ ap not (sym (later_drawn depth i.level i.end texts items low)) }, below)
    ]

-- the levels of items step down as those of lines do
steps_down : (deepest previous from : ℕ) (texts : List ℕ) (items : List Item) → StepsDown deepest previous items → Steps previous (lines_from from texts items)
steps_down deepest previous from texts [] down = tt
steps_down deepest previous from texts (i ∷ items) down = (down.0, down.1, steps_down deepest i.level i.end texts items down.3)

-- the lines that are drawn are within the depth
drawn_within : (depth from : ℕ) (texts : List ℕ) (items : List Item) → AreWithin depth (drawn_lines depth (lines_from from texts items))
drawn_within depth from texts [] = tt
drawn_within depth from texts (i ∷ items) =
    let below = drawn_within depth i.end texts items in
    elim (low_or_deep depth i.level) [ inl (deep, h) ↦ rw deep below | inr (drawn, low) ↦ rw drawn (low, below) ]

-- the items of an outline, drawn as steps, are the drawing of its tree
pub outline_drawn : (look : Look) (texts : List ℕ) (items : List Item) (flags : List ℕ) (deepest depth : ℕ) (drawing : List ℕ) → AreItems deepest items → AreLastFlags items flags
    → drawing ≡ drawn_text look texts [] (steps_from depth 0 items flags) → IsItemsDrawing look depth items texts drawing
outline_drawn look texts [] flags deepest depth drawing are last is = absurd are
outline_drawn look texts (i ∷ items) [] deepest depth drawing are last is = absurd last
outline_drawn look texts (i ∷ items) (flag ∷ flags) deepest depth drawing are last is =
    let o : List Line = lines_from i.end texts items in
    let text : List ℕ = take (i.end - 0) (drop 0 texts) in
    let steps : List Step = steps_from depth 0 (i ∷ items) (flag ∷ flags) in
    let made = tree_of_lines o (steps_down deepest 0 i.end texts items are.1) in
    let f : Forest = made.0 in
    let t : Tree = tree text f in
    let root : line i.level text ∷ o ≡ line 0 text ∷ o = ap (λ n. line n text ∷ o) are.0 in
    let cut : outline_at 1 (cut_forest depth f) ≡ drawn_lines depth o = outline_cut depth 0 depth f (omega arith) ∙ ap (drawn_lines depth) made.1 in
    let low = height_low depth 0 (cut_forest depth f) (omega arith) (subst (λ z. AreWithin depth z) (sym cut) (drawn_within depth i.end texts items)) in
    let drawn : drawn_lines depth (line i.level text ∷ o) ≡ outline (cut_tree depth t) =
    ap (drawn_lines depth) root
    ∙ (ap (λ b. cond b (drawn_lines depth o) (line 0 text ∷ drawn_lines depth o)) (le-ltb depth 0 (omega arith)) ∙ ap (λ z. line 0 text ∷ z) (sym cut)) in
    let all : AreStepsOf texts (outline (cut_tree depth t)) steps = subst (λ z. AreStepsOf texts z steps) drawn (steps_of_items depth 0 texts (i ∷ items) (flag ∷ flags) last) in
    let whole : IsDrawing look (shape_of_tree (cut_tree depth t)) depth (drawn_text look texts [] steps) =
    draws_lines look (cut_tree depth t) [] (map (given_of look texts) steps) depth (omega (arith, low)) (are_given look texts (outline (cut_tree depth t)) steps all) in (
      t,
      (outline_of_tree t (line i.level text ∷ o)).1 (root ∙ ap (λ z. line 0 text ∷ z) (sym made.1)),
      (drawing_of_cut_tree look depth t depth drawing (omega arith)).1 (subst (λ z. IsDrawing look (shape_of_tree (cut_tree depth t)) depth z) (sym is) whole),
    )

-- the text of an item before others
pub kept_text : (look : Look) (texts : List ℕ) (path : List Bool) (depth : ℕ) (s : Step) (steps : List Step)
    → drawn_text look texts path (kept_before depth s steps) ≡ drawn_text look texts path (kept_before depth s []) ++ drawn_text look texts (kept_path depth path s) steps
kept_text look texts path depth s steps = elim (low_or_deep depth s.level) [
  | inl (deep, h) ↦ rw deep refl
  | inr (drawn, low) ↦
      rw drawn (ap (λ z. z ++ drawn_text look texts (path_with path s.level (is_set s.is_last)) steps) (sym (append-nil (entry_behind look path s.level (is_set s.is_last) (step_own look texts s)))))
]

-- an item that is in no list
abbrev pub no_item : Item
no_item = record { end = 0; level = 0 }

-- the text of each item lies between the end of the one before it and its own
abbrev pub HaveTexts : List ℕ → ℕ → List Item → Type 0
HaveTexts texts from [] = Unit {0}
HaveTexts texts from (i ∷ items) = IsTextBetween texts from i.end × HaveTexts texts i.end items

-- so it is for items that are right after one another
texts_after : (texts : List ℕ) (before : Item) (items : List Item) → AreRightAfter texts before items → HaveTexts texts before.end items
texts_after texts before [] right = tt
texts_after texts before (i ∷ items) right = (right.0.0, texts_after texts i items right.1)

-- and for those of an outline
pub outline_texts : (texts : List ℕ) (items : List Item) → AreRight texts items → HaveTexts texts 0 items
outline_texts texts [] right = absurd right
outline_texts texts (i ∷ items) right = (right.1, texts_after texts i items right.2)

-- the text of the next item, and those behind it
pub next_text : (texts : List ℕ) (from n : ℕ) (items : List Item) (d : Item) → n < length items → HaveTexts texts from (drop n items)
    → IsTextBetween texts from (get_or items n d).end × HaveTexts texts (get_or items n d).end (drop (n + 1) items)
next_text texts from n items d h have =
    let item : drop n items ≡ get_or items n d ∷ drop (n + 1) items = drop-cons items n d h ∙ ap (λ k. get_or items n d ∷ drop k items) (sym (add-one n)) in
    subst (λ (z : List Item). HaveTexts texts from z) item have

-- the items that are left are the next one before those behind it
pub next_left : (look : Look) (texts : List ℕ) (path new : List Bool) (depth from n : ℕ) (items : List Item) (flags : List ℕ) (d : Item) → n < length items → length flags ≡ length items
    → new ≡ kept_path depth path (step_of from (get_or items n d) (get_or flags n 0))
    → drawn_text look texts path (steps_from depth from (drop n items) (drop n flags))
    ≡ drawn_text look texts path (kept_before depth (step_of from (get_or items n d) (get_or flags n 0)) [])
    ++ drawn_text look texts new (steps_from depth (get_or items n d).end (drop (n + 1) items) (drop (n + 1) flags))
next_left look texts path new depth from n items flags d h long is =
    let i : Item = get_or items n d in
    let f : ℕ = get_or flags n 0 in
    let s : Step = step_of from i f in
    let item : drop n items ≡ i ∷ drop (n + 1) items = drop-cons items n d h ∙ ap (λ k. i ∷ drop k items) (sym (add-one n)) in
    let flag : drop n flags ≡ f ∷ drop (n + 1) flags = drop-cons flags n 0 (omega (arith, h, long)) ∙ ap (λ k. f ∷ drop k flags) (sym (add-one n)) in
    let rest : List Step = steps_from depth i.end (drop (n + 1) items) (drop (n + 1) flags) in
    ap (λ x. drawn_text look texts path (steps_from depth from x (drop n flags))) item
    ∙ (ap (λ x. drawn_text look texts path (steps_from depth from (i ∷ drop (n + 1) items) x)) flag
    ∙ (kept_text look texts path depth s rest
    ∙ ap (λ q. drawn_text look texts path (kept_before depth s []) ++ drawn_text look texts q rest) (sym is)))

-- a part more of a whole is drawn
pub drawn_more : (drawn whole part rest all : List ℕ) → whole ≡ part ++ rest → drawn ++ whole ≡ all → (drawn ++ part) ++ rest ≡ all
drawn_more drawn whole part rest all is before = append_assoc drawn part rest ∙ (ap (λ z. drawn ++ z) (sym is) ∙ before)

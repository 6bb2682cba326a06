-- Continuing with the lines of a text, one by one.
use Rattle.std.proofs.Common.{◌≡◌, ◌≢◌, ℕ, suc, ◌<◌, ◌≤◌, ◌⊎◌, inl, inr, List, [], ◌∷◌, ◌++◌, refl, sym, ap, ◌∙◌, subst, append_assoc, arith}
use Rattle.std.proofs.lemmas.List.{append_cancel_left}
use Rattle.std.proofs.lemmas.List.Elements.{All-head, All-tail}
use Rattle.ptree.specs.Drawing.{Look, with_inserted, continued_prefix}
use Rattle.ptree.specs.DrawnForm.{IsDrawnForm}
use Rattle.ptree.specs.Flags.{pieces_by, passing_by}
use Rattle.ptree.specs.Outline.{Line, line, outline_at, outline, Steps, last_level}
use Rattle.ptree.specs.Reached.{AreWithin, IsOutlineWithin, lines_text, own_prefix, Follows}
use Rattle.ptree.specs.Spelled.{text_entry}
use Rattle.ptree.specs.Style.{start_codes, end_codes, painted_text}
use Rattle.ptree.specs.Texts.{HasNoLineFeed}
use Rattle.ptree.specs.Tree.{Tree, tree, height}
use Rattle.ptree.proofs.Drawing.Inserted.{is_feed, inserted_feed, inserted_other, inserted-append, inserted_none, inserted_line}
use Rattle.ptree.proofs.Reading.Levels.{entry_shown, tree_by_levels}
use Rattle.ptree.proofs.Trees.LineTrees.{tree_of_lines}
use Rattle.ptree.proofs.Reading.SpelledForms.{tree_steps, low_height, height_low, low_split, low_both}
use Rattle.ptree.proofs.Styles.PaintedTexts.{no_line_feed_start}
use Rattle.ptree.proofs.Drawing.TreeDrawing.{drawing_of_tree}

-- ## The first line of a text

-- the first line of a text with insertions
pub first_line_of_inserted : (further own more w d : List ℕ) → HasNoLineFeed own → own ++ 10 ∷ more ≡ with_inserted further w ++ 10 ∷ d
    → ((own ≡ w) × (more ≡ d)) ⊎ ((v : List ℕ) × (w ≡ own ++ 10 ∷ v) × (more ≡ further ++ with_inserted further v ++ 10 ∷ d))
first_line_of_inserted further [] more [] d h e = inl (refl, cc)
first_line_of_inserted further [] more (c ∷ w) d h e = elim (is_feed c) [
  | inl f ↦
      let e' : 10 ∷ more ≡ (10 ∷ (further ++ with_inserted further w)) ++ 10 ∷ d = e ∙ ap (λ z. z ++ 10 ∷ d) (inserted_feed further c w f) in
      inr (w, ap (λ z. z ∷ w) f, cc)
  | inr n ↦
      let e' : 10 ∷ more ≡ (c ∷ with_inserted further w) ++ 10 ∷ d = e ∙ ap (λ z. z ++ 10 ∷ d) (inserted_other further c w n) in
      absurd (n (let heads : c ≡ 10 = cc in heads))
]
first_line_of_inserted further (b ∷ own) more [] d h e = absurd (All-head (λ c. c ≢ 10) b own h (let heads : b ≡ 10 = cc in heads))
first_line_of_inserted further (b ∷ own) more (c ∷ w) d h e = elim (is_feed c) [
  | inl f ↦
      let e' : b ∷ (own ++ 10 ∷ more) ≡ (10 ∷ (further ++ with_inserted further w)) ++ 10 ∷ d = e ∙ ap (λ z. z ++ 10 ∷ d) (inserted_feed further c w f) in
      absurd (All-head (λ c. c ≢ 10) b own h (let heads : b ≡ 10 = cc in heads))
  | inr n ↦
      let e' : b ∷ (own ++ 10 ∷ more) ≡ (c ∷ with_inserted further w) ++ 10 ∷ d = e ∙ ap (λ z. z ++ 10 ∷ d) (inserted_other further c w n) in
      let heads : b ≡ c = cc in
      let tails : own ++ 10 ∷ more ≡ with_inserted further w ++ 10 ∷ d = cc in
      elim (first_line_of_inserted further own more w d (All-tail (λ c. c ≢ 10) b own h) tails) [
        | inl s ↦ inl (ap (λ z. z ∷ own) heads ∙ ap (λ z. c ∷ z) s.0, s.1)
        | inr s ↦ inr (s.0, ap (λ z. z ∷ w) (sym heads) ∙ ap (λ z. b ∷ z) s.1, s.2)
      ]
]

-- a text with insertions, from its first line
pub inserted_from_first_line : (further own more w d : List ℕ) → HasNoLineFeed own → ((own ≡ w) × (more ≡ d)) ⊎ ((v : List ℕ) × (w ≡ own ++ 10 ∷ v) × (more ≡ further ++ with_inserted further v ++ 10 ∷ d))
    → own ++ 10 ∷ more ≡ with_inserted further w ++ 10 ∷ d
inserted_from_first_line further own more w d h (inl s) = ap (λ z. own ++ 10 ∷ z) s.1 ∙ ap (λ z. z ++ 10 ∷ d) (sym (ap (with_inserted further) (sym s.0) ∙ inserted_none further own h))
inserted_from_first_line further own more w d h (inr s) =
    let shown : with_inserted further w ≡ own ++ 10 ∷ (further ++ with_inserted further s.0) = ap (with_inserted further) s.1 ∙ inserted_line further own s.0 h in
    ap (λ z. own ++ 10 ∷ z) s.2 ∙ (sym (append_assoc own (10 ∷ (further ++ with_inserted further s.0)) (10 ∷ d)) ∙ ap (λ z. z ++ 10 ∷ d) (sym shown))

-- ## The entry of a line

-- the parts of an entry: what comes before the text on the own line, and the text with insertions
entry_split : (k : Look) (pieces passing text d : List ℕ) → text_entry k pieces passing text ++ d ≡ own_prefix k pieces ++ (with_inserted (continued_prefix k passing) (text ++ end_codes k.leaf) ++ 10 ∷ d)
entry_split k pieces passing text d =
    let further : List ℕ = continued_prefix k passing in
    let prefix : List ℕ = start_codes k.leaf in
    let w : List ℕ = text ++ end_codes k.leaf in
    let shown : with_inserted further (painted_text k.leaf text) ≡ prefix ++ with_inserted further w =
    ap (with_inserted further) (append_assoc prefix text (end_codes k.leaf)) ∙ (inserted-append further prefix w ∙ ap (λ z. z ++ with_inserted further w) (inserted_none further prefix (no_line_feed_start k.leaf))) in
    ap (λ z. (painted_text k.branch pieces ++ z ++ 10 ∷ []) ++ d) shown ∙ regrouped (painted_text k.branch pieces) prefix (with_inserted further w)
  where
    regrouped : (a b c : List ℕ) → (a ++ (b ++ c) ++ 10 ∷ []) ++ d ≡ (a ++ b) ++ (c ++ 10 ∷ d)
    regrouped a b c = simp append_assoc

-- the parts of the drawing of a line and of those below it
pub line_split : (k : Look) (l : Line) (below : List Line) → lines_text k (l ∷ below)
    ≡ own_prefix k (pieces_by k.pieces below l.level) ++ (with_inserted (continued_prefix k (passing_by k.pieces below l.level)) (l.text ++ end_codes k.leaf) ++ 10 ∷ lines_text k below)
line_split k l below =
    ap (λ z. z ++ lines_text k below) (entry_shown k (pieces_by k.pieces below l.level) (passing_by k.pieces below l.level) l.text)
    ∙ entry_split k (pieces_by k.pieces below l.level) (passing_by k.pieces below l.level) l.text (lines_text k below)

-- an item's own line
abbrev pub own_line : Look → List ℕ → List ℕ → List ℕ
own_line k pieces own = own_prefix k pieces ++ own ++ 10 ∷ []

-- a line and its line feed, regrouped
pub moved_assoc : (a line more : List ℕ) → (a ++ line ++ 10 ∷ []) ++ more ≡ a ++ (line ++ 10 ∷ more)
moved_assoc a line more = simp append_assoc

-- an item's own line and the rest, by parts
pub own_line_more : (k : Look) (pieces own more : List ℕ) → own_line k pieces own ++ more ≡ own_prefix k pieces ++ (own ++ 10 ∷ more)
own_line_more k pieces own more = moved_assoc (own_prefix k pieces) own more

-- an item's own line is a prefix of the drawing of the item and of the lines below it
pub own_line_is_prefix : (k : Look) (n : ℕ) (pieces own more text : List ℕ) (below : List Line) → HasNoLineFeed own → pieces ≡ pieces_by k.pieces below n
    → own_line k pieces own ++ more ≡ lines_text k (line n text ∷ below) → Follows k n own text below more
own_line_is_prefix k n pieces own more text below h is e =
    let further : List ℕ = continued_prefix k (passing_by k.pieces below n) in
    let whole : own_prefix k pieces ++ (own ++ 10 ∷ more) ≡ own_prefix k pieces ++ (with_inserted further (text ++ end_codes k.leaf) ++ 10 ∷ lines_text k below) =
    sym (own_line_more k pieces own more) ∙ (e ∙ (line_split k (line n text) below ∙ ap (λ z. own_prefix k z ++ (with_inserted further (text ++ end_codes k.leaf) ++ 10 ∷ lines_text k below)) (sym is))) in
    first_line_of_inserted further own more (text ++ end_codes k.leaf) (lines_text k below) h (append_cancel_left (own_prefix k pieces) _ _ whole)

-- an item's own line and what follows it draw the item and the lines below it
pub own_line_then_rest : (k : Look) (n : ℕ) (pieces own more text : List ℕ) (below : List Line) → HasNoLineFeed own → pieces ≡ pieces_by k.pieces below n
    → Follows k n own text below more → own_line k pieces own ++ more ≡ lines_text k (line n text ∷ below)
own_line_then_rest k n pieces own more text below h is f =
    let further : List ℕ = continued_prefix k (passing_by k.pieces below n) in
    own_line_more k pieces own more ∙ (ap (λ z. own_prefix k pieces ++ z) (inserted_from_first_line further own more (text ++ end_codes k.leaf) (lines_text k below) h f)
    ∙ (ap (λ z. own_prefix k z ++ (with_inserted further (text ++ end_codes k.leaf) ++ 10 ∷ lines_text k below)) is ∙ sym (line_split k (line n text) below)))

-- ## Outlines within a depth

-- the levels of the lines from a line on, and where that line may be
steps_below : (n : ℕ) (lines : List Line) (l : Line) (below : List Line) → Steps n (lines ++ l ∷ below) → (0 < l.level) × (l.level ≤ suc (last_level n lines)) × Steps l.level below
steps_below n [] l below s = s
steps_below n (x ∷ lines) l below s = steps_below x.level lines l below s.2

-- the lines below the last line of an outline are valid
pub valid_below : (depth : ℕ) (lines : List Line) (l : Line) (below : List Line) → IsOutlineWithin depth (lines ++ l ∷ below) → Steps l.level below × AreWithin depth below
valid_below depth [] l below h = (subst (λ z. Steps z below) (sym h.0) h.1, h.2)
valid_below depth (x ∷ lines) l below h = ((steps_below 0 lines l below h.1).2, (low_split depth lines (l ∷ below) h.2).1.1)

-- steps up to a line, and from it on
steps_more : (n : ℕ) (lines : List Line) (l : Line) (below : List Line) → Steps n (lines ++ l ∷ []) → Steps l.level below → Steps n (lines ++ l ∷ below)
steps_more n [] l below s r = (s.0, s.1, r)
steps_more n (x ∷ lines) l below s r = (s.0, s.1, steps_more x.level lines l below s.2 r)

-- lines below the last line of an outline make a longer outline
pub valid_more : (depth : ℕ) (lines : List Line) (l : Line) (below : List Line) → IsOutlineWithin depth (lines ++ l ∷ []) → Steps l.level below → AreWithin depth below → IsOutlineWithin depth (lines ++ l ∷ below)
valid_more depth [] l below h s w = (h.0, subst (λ z. Steps z below) h.0 s, w)
valid_more depth (x ∷ lines) l below h s w =
    let parts = low_split depth lines (l ∷ []) h.2 in
    (h.0, steps_more 0 lines l below h.1 s, low_both depth lines (l ∷ below) parts.0 (parts.1.0, w))

-- lines after one more line
pub push_assoc : (lines : List Line) (l : Line) (below : List Line) → (lines ++ l ∷ []) ++ below ≡ lines ++ l ∷ below
push_assoc lines l below = append_assoc lines (l ∷ []) below

-- ## Trees

-- the text of an outline is the root's entry, and the lines below it
root_text : (k : Look) (t : Tree) → lines_text k (outline t) ≡ text_entry k [] [] t.text ++ lines_text k (outline_at 1 t.children)
root_text k t = ap (λ z. z ++ lines_text k (outline_at 1 t.children)) (entry_shown k [] [] t.text)

-- a drawing is that of its tree's outline
pub form_outline : (k : Look) (depth : ℕ) (x : List ℕ) (t : Tree) → IsDrawnForm k depth x t → (x ≡ lines_text k (outline t)) × IsOutlineWithin depth (outline t)
form_outline k depth x t h = (
  (drawing_of_tree k depth t x h.within).0 h.drawn ∙ (tree_by_levels k t ∙ sym (root_text k t)),
  (refl, tree_steps t.children, low_height depth 0 t.children (let within = h.within in omega (arith, within))),
)

-- the drawing of a tree's outline is the tree's drawing
pub outline_form : (k : Look) (depth : ℕ) (x : List ℕ) (t : Tree) → IsOutlineWithin depth (outline t) → x ≡ lines_text k (outline t) → IsDrawnForm k depth x t
outline_form k depth x t h e =
    let low = height_low depth 0 t.children (omega arith) h.2 in
    let within : height t.children ≤ depth = omega (arith, low) in
    record { drawn = (drawing_of_tree k depth t x within).1 (e ∙ (root_text k t ∙ sym (tree_by_levels k t))); within = within }

-- an outline within the depth is that of a tree
pub tree_of_outline : (depth : ℕ) (o : List Line) → IsOutlineWithin depth o → (t : Tree) × (outline t ≡ o)
tree_of_outline depth [] h = absurd h
tree_of_outline depth (l ∷ o) h =
    let (f, is) = tree_of_lines o h.1 in
    (tree l.text f, ap (λ z. line 0 l.text ∷ z) is ∙ ap (λ z. line z l.text ∷ o) (sym h.0))

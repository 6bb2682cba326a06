-- A text is the drawn form of a tree exactly when it spells the tree's outline with the pieces that
-- the levels give.
use Rattle.std.proofs.Common.{◌≡◌, ℕ, zero, suc, ◌+◌, ◌<◌, ◌≤◌, Bool, true, false, cond, List, [], ◌∷◌, ◌++◌, not, All, refl, sym, ap, ◌∙◌, subst, append_assoc, arith}
use Rattle.std.proofs.lemmas.Bool.{false≢true}
use Rattle.std.proofs.lemmas.List.{append-nil}
use Rattle.std.proofs.lemmas.List.Elements.{All-nil, All-cons, All-head, All-tail}
use Rattle.ptree.specs.Drawing.{Look, look_from}
use Rattle.ptree.specs.DrawnForm.{IsDrawnForm, ReadsOneWay}
use Rattle.ptree.specs.Flags.{has_later, last_flags, pieces_by, passing_by, shown_by, spelled_by}
use Rattle.ptree.specs.Outline.{Line, line, outline_at, Steps}
use Rattle.ptree.specs.Pieces.{Pieces}
use Rattle.ptree.specs.Reached.{AreWithin}
use Rattle.ptree.specs.Readable.{IsReadableWith}
use Rattle.ptree.specs.Spelled.{has_line_feed, SpelledItem, lines_of_items, ArePiecesAt, ArePassing, IsShown, IsSpelled, text_entry, spelled_text, Spells, HasRoot}
use Rattle.ptree.specs.Tree.{none, item, Forest, Tree, height}
use Rattle.ptree.proofs.Reading.LastFlags.{length-last_flags}
use Rattle.ptree.proofs.Trees.Outlines.{same_tree}
use Rattle.ptree.proofs.Reading.Levels.{tree_by_levels}
use Rattle.ptree.proofs.Reading.ItemsOnce.{root_once, lines_once, entry_not_nil, stops_at_end}
use Rattle.ptree.proofs.Reading.Markers.{items_do_not_continue}
use Rattle.ptree.proofs.Drawing.TreeDrawing.{drawing_of_tree}

-- x is the text of a root, and then the text of items
pub record Shows (k : Look) (depth : ℕ) (root : List ℕ) (lines : List SpelledItem) (x : List ℕ) : Type 0 where
  pub body : List ℕ
  pub has_root : HasRoot k root body x
  pub spells : Spells k depth lines body

-- the levels of an outline increase by at most one
forest_steps : (n previous : ℕ) (f : Forest) (o : List Line) → n ≤ previous → ((later : ℕ) → n ≤ later → Steps later o) → Steps previous (outline_at (suc n) f ++ o)
forest_steps n previous none o l s = s previous l
forest_steps n previous (item t c r) o l s =
    let inner : Steps (suc n) ((outline_at (suc (suc n)) c ++ outline_at (suc n) r) ++ o) =
    subst (λ z. Steps (suc n) z) (sym (append_assoc (outline_at (suc (suc n)) c) (outline_at (suc n) r) o))
    (forest_steps (suc n) (suc n) c (outline_at (suc n) r ++ o) (omega arith) (λ later l'. forest_steps n later r o (omega arith) s)) in
    (omega arith, omega arith, inner)

-- the levels of a tree's outline increase by at most one
pub tree_steps : (f : Forest) → Steps 0 (outline_at 1 f)
tree_steps f = subst (λ z. Steps 0 z) (append-nil (outline_at 1 f)) (forest_steps 0 0 f [] (omega arith) (λ later l. tt))

-- both parts of low lines are low
pub low_split : (depth : ℕ) (a b : List Line) → AreWithin depth (a ++ b) → AreWithin depth a × AreWithin depth b
low_split depth [] b h = (tt, h)
low_split depth (l ∷ a) b h = let rest = low_split depth a b h.1 in ((h.0, rest.0), rest.1)

-- low lines after low lines are low
pub low_both : (depth : ℕ) (a b : List Line) → AreWithin depth a → AreWithin depth b → AreWithin depth (a ++ b)
low_both depth [] b h g = g
low_both depth (l ∷ a) b h g = (h.0, low_both depth a b h.1 g)

-- a forest with a low outline is not too high
pub height_low : (depth n : ℕ) (f : Forest) → n ≤ depth → AreWithin depth (outline_at (suc n) f) → n + height f ≤ depth
height_low depth n none l h = omega arith
height_low depth n (item t c r) l h =
    let parts = low_split depth (outline_at (suc (suc n)) c) (outline_at (suc n) r) h.1 in
    let here = h.0 in
    let below = height_low depth (suc n) c (omega arith) parts.0 in
    let after = height_low depth n r l parts.1 in
    omega arith

-- the outline of a forest that is not too high is low
pub low_height : (depth n : ℕ) (f : Forest) → n + height f ≤ depth → AreWithin depth (outline_at (suc n) f)
low_height depth n none h = tt
low_height depth n (item t c r) h =
    (omega arith, low_both depth (outline_at (suc (suc n)) c) (outline_at (suc n) r) (low_height depth (suc n) c (omega arith)) (low_height depth n r (omega arith)))

-- items within the depth have low lines
pub low_lines : (depth : ℕ) (lines : List SpelledItem) → All (λ l. l.level ≤ depth) lines → AreWithin depth (lines_of_items lines)
low_lines depth [] h = tt
low_lines depth (l ∷ lines) h = (All-head (λ m. m.level ≤ depth) l lines h, low_lines depth lines (All-tail (λ m. m.level ≤ depth) l lines h))

-- the lines that were given pieces
pub lines_by : (p : Pieces) (o : List Line) → lines_of_items (spelled_by p o) ≡ o
lines_by p [] = refl
lines_by p (l ∷ o) = ap (λ z. l ∷ z) (lines_by p o)

-- the pieces of a line fit its level
pub pieces_at : (p : Pieces) (o : List Line) (n : ℕ) → 0 < n → ArePiecesAt p n (pieces_by p o n)
pieces_at p o zero h = absurd (omega arith)
pieces_at p o (suc n) h = (last_flags o n, not (has_later o (suc n)), length-last_flags o n, refl)

-- the passing pieces of a line fit its level
pub passing_at : (p : Pieces) (o : List Line) (n : ℕ) → ArePassing p n (passing_by p o n)
passing_at p o n = (last_flags o n, length-last_flags o n, refl)

-- the passing pieces that an item shows
pub shown_at : (p : Pieces) (o : List Line) (l : Line) → IsShown p l.level (shown_by p o l) l.text
shown_at p o l = at (has_line_feed l.text) refl where
  at : (b : Bool) → has_line_feed l.text ≡ b → IsShown p l.level (cond b (passing_by p o l.level) []) l.text
  at true e = record { further = λ f. passing_at p o l.level; single = λ f. absurd (false≢true (sym f ∙ e)) }
  at false e = record { further = λ f. absurd (false≢true (sym e ∙ f)); single = λ f. refl }

-- the items of an outline have the pieces of their levels
pub are_spelled_by : (p : Pieces) (previous : ℕ) (o : List Line) → Steps previous o → All (IsSpelled p) (spelled_by p o)
are_spelled_by p previous [] s = All-nil (IsSpelled p)
are_spelled_by p previous (l ∷ o) s =
    All-cons (IsSpelled p) _ (spelled_by p o) (pieces_at p o l.level s.0, shown_at p o l) (are_spelled_by p l.level o s.2)

-- the items of a low outline are within the depth
pub within_by : (p : Pieces) (depth : ℕ) (o : List Line) → AreWithin depth o → All (λ l. l.level ≤ depth) (spelled_by p o)
within_by p depth [] h = All-nil (λ l. l.level ≤ depth)
within_by p depth (l ∷ o) h = All-cons (λ m. m.level ≤ depth) _ (spelled_by p o) h.0 (within_by p depth o h.1)

-- the outline of a tree
abbrev pub tree_lines : Pieces → Tree → List SpelledItem
tree_lines p t = spelled_by p (outline_at 1 t.children)

-- the drawn form spells the outline, with the pieces that last flags give
pub form_shows : (look : Look) → IsReadableWith look.pieces look.marker → (depth : ℕ) (x : List ℕ) (t : Tree) → IsDrawnForm look depth x t → Shows look depth t.text (tree_lines look.pieces t) x
form_shows look readable depth x t h =
    let k : Look = look in
    let o : List Line = outline_at 1 t.children in
    let steps = tree_steps t.children in
    let are = are_spelled_by k.pieces 0 o steps in
    record {
      body = spelled_text k (spelled_by k.pieces o);
      has_root = ((drawing_of_tree look depth t x h.within).0 h.drawn ∙ tree_by_levels k t, items_do_not_continue k readable 0 (spelled_by k.pieces o) are);
      spells = record {
        are_spelled = are;
        steps = subst (λ z. Steps 0 z) (sym (lines_by k.pieces o)) steps;
        within = within_by k.pieces depth o (low_height depth 0 t.children (omega (arith, h.within)));
        text_is = refl;
      };
    }

-- a text that spells the outline is the drawn form
pub shows_form : (look : Look) (depth : ℕ) (x : List ℕ) (t : Tree) → Shows look depth t.text (tree_lines look.pieces t) x → IsDrawnForm look depth x t
shows_form look depth x t h =
    let k : Look = look in
    let o : List Line = outline_at 1 t.children in
    let low = height_low depth 0 t.children (omega arith) (subst (AreWithin depth) (lines_by k.pieces o) (low_lines depth (spelled_by k.pieces o) h.spells.within)) in
    let within : height t.children ≤ depth = omega (arith, low) in
    record {
      drawn = (drawing_of_tree look depth t x within).1 (h.has_root.0 ∙ (ap (λ z. text_entry k [] [] t.text ++ z) h.spells.text_is ∙ sym (tree_by_levels k t)));
      within = within;
    }

-- a text shows only one root and one list of items
pub shows_once : (k : Look) (depth depth' : ℕ) → IsReadableWith k.pieces k.marker → (a b : List ℕ) (lines rows' : List SpelledItem) (x : List ℕ)
    → Shows k depth a lines x → Shows k depth' b rows' x → (a ≡ b) × (lines ≡ rows')
shows_once k depth depth' readable a b lines rows' x h g =
    let roots = root_once k readable a b x h.body g.body h.has_root g.has_root in
    let on = lines_once k readable lines rows' [] h.spells.are_spelled g.spells.are_spelled (stops_at_end k readable lines)
    (append-nil (spelled_text k lines) ∙ (sym h.spells.text_is ∙ (roots.1 ∙ g.spells.text_is))) in
    (roots.0, sym (on.are ∙ (ap (λ z. lines ++ z) (at_end on.more on.rest_is) ∙ append-nil lines)))
  where
    at_end : (more : List SpelledItem) → [] ≡ spelled_text k more → more ≡ []
    at_end [] e = refl
    at_end (r ∷ more) e = absurd (entry_not_nil k r.pieces r.passing r.text (spelled_text k more) (sym e))

-- if pieces and marker are readable, two trees with one drawn form are equal
pub same_drawn_form : (look : Look) (depth : ℕ) → IsReadableWith look.pieces look.marker → (x : List ℕ) (t u : Tree) → IsDrawnForm look depth x t → IsDrawnForm look depth x u → t ≡ u
same_drawn_form look depth readable x t u h g =
    let p : Pieces = look.pieces in
    let same = shows_once look depth depth readable t.text u.text (tree_lines p t) (tree_lines p u) x (form_shows look readable depth x t h) (form_shows look readable depth x u g) in
    let below : outline_at 1 t.children ≡ outline_at 1 u.children =
    sym (lines_by p (outline_at 1 t.children)) ∙ (ap lines_of_items same.1 ∙ lines_by p (outline_at 1 u.children)) in
    same_tree t u (ap (λ z. line 0 z ∷ outline_at 1 t.children) same.0 ∙ ap (λ z. line 0 u.text ∷ z) below)

-- readable pieces and a readable marker read in only one way
pub reads_one_way : (p : Pieces) (marker : List ℕ) → IsReadableWith p marker → ReadsOneWay p marker
reads_one_way p marker h branch leaf depth x t u f g = same_drawn_form (look_from branch leaf p marker) depth h x t u f g

-- A tree's drawing is that of its outline.
use Rattle.std.proofs.Common.{◌≡◌, ℕ, zero, suc, ◌<◌, ◌≤◌, Bool, true, false, not, cond, eqb, List, [], ◌∷◌, ◌++◌, refl, sym, ap, ◌∙◌, append_assoc, arith}
use Rattle.std.proofs.Math.Bool.{not-not}
use Rattle.std.proofs.lemmas.Bool.{lt-ltb, le-ltb, eq-eqb, ne_eqb}
use Rattle.std.proofs.lemmas.List.{append-nil}
use Rattle.ptree.specs.Drawing.{Look}
use Rattle.ptree.specs.Flags.{has_later, last_flags, pieces_by, passing_by, shown_by}
use Rattle.ptree.specs.Outline.{Line, line, outline_at}
use Rattle.ptree.specs.Pieces.{turning_piece, passing_all}
use Rattle.ptree.specs.Reached.{lines_text}
use Rattle.ptree.specs.Spelled.{has_line_feed, text_entry}
use Rattle.ptree.specs.Style.{painted_text}
use Rattle.ptree.specs.Tree.{none, item, Forest, Tree}
use Rattle.ptree.proofs.Drawing.Inserted.{inserted_none, feed_painted, no_feed_when}
use Rattle.ptree.proofs.Drawing.TreeDrawing.{is_bare, forest_drawing, tree_drawing}

-- a deeper line at the start does not decide about level m
pub has_later_deeper : (l : Line) (o : List Line) (m : ℕ) → m < l.level → has_later (l ∷ o) m ≡ has_later o m
has_later_deeper l o m h = rw (lt-ltb m l.level h) refl

-- a line at the start that is not deeper decides about level m
pub has_later_here : (l : Line) (o : List Line) (m : ℕ) → l.level ≤ m → has_later (l ∷ o) m ≡ eqb m l.level
has_later_here l o m h = rw (le-ltb m l.level h) refl

-- lines of trees below level n do not affect the items at levels up to n
has_later_skip : (n : ℕ) (f : Forest) (o : List Line) (m : ℕ) → m ≤ n → has_later (outline_at (suc n) f ++ o) m ≡ has_later o m
has_later_skip n none o m h = refl
has_later_skip n (item t c r) o m h =
    has_later_deeper (line (suc n) t) ((outline_at (suc (suc n)) c ++ outline_at (suc n) r) ++ o) m (omega arith)
    ∙ (ap (λ z. has_later z m) (append_assoc (outline_at (suc (suc n)) c) (outline_at (suc n) r) o)
    ∙ (has_later_skip (suc n) c (outline_at (suc n) r ++ o) m (omega arith) ∙ has_later_skip n r o m h))

-- a row of trees has a later item of its level exactly if it is not bare
has_later_row : (n : ℕ) (f : Forest) (o : List Line) → has_later o (suc n) ≡ false → has_later (outline_at (suc n) f ++ o) (suc n) ≡ not (is_bare f)
has_later_row n none o h = h
has_later_row n (item t c r) o h = has_later_here (line (suc n) t) ((outline_at (suc (suc n)) c ++ outline_at (suc n) r) ++ o) (suc n) (omega arith) ∙ eq-eqb (suc n) (suc n) refl

-- above a row of trees nothing comes later, if nothing did before
has_later_above : (n : ℕ) (f : Forest) (o : List Line) → ((m : ℕ) → n < m → has_later o m ≡ false) → (m : ℕ) → suc n < m → has_later (outline_at (suc n) f ++ o) m ≡ false
has_later_above n none o h m l = h m (omega arith)
has_later_above n (item t c r) o h m l = has_later_here (line (suc n) t) ((outline_at (suc (suc n)) c ++ outline_at (suc n) r) ++ o) m (omega arith) ∙ ne_eqb m (suc n) (omega arith)

-- last flags depend only on which levels have later items
pub last_flags_same : (a b : List Line) (n : ℕ) → ((m : ℕ) → m ≤ n → has_later a m ≡ has_later b m) → last_flags a n ≡ last_flags b n
last_flags_same a b zero h = refl
last_flags_same a b (suc n) h =
    let before = last_flags_same a b n (λ m l. h m (omega arith)) in
    let here = h (suc n) (omega arith) in
    ap (λ z. z ++ not (has_later a (suc n)) ∷ []) before ∙ ap (λ z. last_flags b n ++ not z ∷ []) here

-- a text without a further line shows no passing pieces
pub entry_shown : (k : Look) (prefix passing text : List ℕ) → text_entry k prefix (cond (has_line_feed text) passing []) text ≡ text_entry k prefix passing text
entry_shown k prefix passing text = at (has_line_feed text) refl where
  at : (b : Bool) → has_line_feed text ≡ b → text_entry k prefix (cond b passing []) text ≡ text_entry k prefix passing text
  at true e = refl
  at false e =
      let one = no_feed_when (painted_text k.leaf text) (feed_painted k.leaf text ∙ e) in
      ap (λ z. painted_text k.branch prefix ++ z ++ 10 ∷ []) (inserted_none _ (painted_text k.leaf text) one ∙ sym (inserted_none _ (painted_text k.leaf text) one))

-- the drawing of a row of trees, by the levels of its lines
forest_by_levels : (k : Look) → (above : List Bool) (n : ℕ) (f : Forest) (o : List Line) → above ≡ last_flags o n → ((m : ℕ) → n < m → has_later o m ≡ false)
    → lines_text k (outline_at (suc n) f ++ o) ≡ forest_drawing k above f ++ lines_text k o
forest_by_levels k above n none o e h = refl
forest_by_levels k above n (item t c r) o e h =
    let later : List Line = outline_at (suc n) r ++ o in
    let tail : List Line = (outline_at (suc (suc n)) c ++ outline_at (suc n) r) ++ o in
    let regrouped : tail ≡ outline_at (suc (suc n)) c ++ later = append_assoc (outline_at (suc (suc n)) c) (outline_at (suc n) r) o in
    let here : has_later later (suc n) ≡ not (is_bare r) = has_later_row n r o (h (suc n) (omega arith)) in
    let last : not (has_later tail (suc n)) ≡ is_bare r =
    ap (λ z. not (has_later z (suc n))) regrouped ∙ (ap not (has_later_skip (suc n) c later (suc n) (omega arith) ∙ here) ∙ not-not (is_bare r)) in
    let up_to : (x : List Line) → ((m : ℕ) → m ≤ n → has_later x m ≡ has_later o m) → last_flags x n ≡ above = λ x g. last_flags_same x o n g ∙ sym e in
    let over_tail : last_flags tail n ≡ above = up_to tail (λ m l. ap (λ z. has_later z m) regrouped ∙ (has_later_skip (suc n) c later m (omega arith) ∙ has_later_skip n r o m l)) in
    let over_later : last_flags later n ≡ above = up_to later (λ m l. has_later_skip n r o m l) in
    let below = forest_by_levels k (above ++ is_bare r ∷ []) (suc n) c later
    (ap (λ z. z ++ is_bare r ∷ []) (sym over_later) ∙ ap (λ z. last_flags later n ++ z ∷ []) (sym (ap not here ∙ not-not (is_bare r))))
    (has_later_above n r o h) in
    let after = forest_by_levels k above n r o e h in
    let prefix : pieces_by k.pieces tail (suc n) ≡ passing_all k.pieces above ++ turning_piece k.pieces (is_bare r) =
    ap (λ z. passing_all k.pieces z ++ turning_piece k.pieces (not (has_later tail (suc n)))) over_tail ∙ ap (λ z. passing_all k.pieces above ++ turning_piece k.pieces z) last in
    let rest : lines_text k tail ≡ forest_drawing k (above ++ is_bare r ∷ []) c ++ (forest_drawing k above r ++ lines_text k o) =
    ap (λ z. lines_text k z) regrouped ∙ (below ∙ ap (λ z. forest_drawing k (above ++ is_bare r ∷ []) c ++ z) after) in
    let deep : List Bool = above ++ is_bare r ∷ [] in
    let passing : passing_by k.pieces tail (suc n) ≡ passing_all k.pieces deep =
    ap (λ z. passing_all k.pieces (z ++ not (has_later tail (suc n)) ∷ [])) over_tail ∙ ap (λ z. passing_all k.pieces (above ++ z ∷ [])) last in
    let turned : List ℕ = passing_all k.pieces above ++ turning_piece k.pieces (is_bare r) in
    ap (λ z. text_entry k z (shown_by k.pieces tail (line (suc n) t)) t ++ lines_text k tail) prefix
    ∙ (ap (λ z. z ++ lines_text k tail) (entry_shown k turned (passing_by k.pieces tail (suc n)) t)
    ∙ (ap (λ z. text_entry k turned z t ++ lines_text k tail) passing
    ∙ (ap (λ z. text_entry k turned (passing_all k.pieces deep) t ++ z) rest
    ∙ sym (append_assoc (text_entry k turned (passing_all k.pieces deep) t) _ _ ∙ ap (λ z. text_entry k turned (passing_all k.pieces deep) t ++ z) (append_assoc (forest_drawing k deep c) (forest_drawing k above r) (lines_text k o))))))

-- a tree's drawing is that of the levels and the texts of its outline
pub tree_by_levels : (k : Look) → (t : Tree) → tree_drawing k t ≡ text_entry k [] [] t.text ++ lines_text k (outline_at 1 t.children)
tree_by_levels k t =
    let below = forest_by_levels k [] 0 t.children [] refl (λ m l. refl) in
    ap (λ z. text_entry k [] [] t.text ++ z)
    (sym (append-nil (forest_drawing k [] t.children)) ∙ (sym below ∙ ap (λ z. lines_text k z) (append-nil (outline_at 1 t.children))))

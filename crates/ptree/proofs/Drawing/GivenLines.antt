-- The items of a tree, given one by one, are drawn as the tree.
use Rattle.std.proofs.Common.{◌≡◌, ℕ, zero, suc, ◌-◌, ◌<◌, ◌≤◌, inl, inr, Bool, not, cond, Some, None, List, [], ◌∷◌, ◌++◌, take, refl, sym, ap, ◌∙◌, arith}
use Rattle.std.proofs.lemmas.Bool.{cases_lt, ne_eqb}
use Rattle.std.proofs.lemmas.List.{take_all, take-append-le}
use Rattle.ptree.specs.Drawing.{Look}
use Rattle.ptree.specs.Flags.{has_later, last_flags, pieces_by, passing_by, shown_by}
use Rattle.ptree.specs.GivenItems.{last_of, entry_below, entry_behind, path_with, GivenItem, given_text, IsGivenAs, AreGivenAs, DrawsLines}
use Rattle.ptree.specs.Outline.{Line, line, outline_at, Steps}
use Rattle.ptree.specs.Reached.{lines_text}
use Rattle.ptree.specs.Spelled.{text_entry}
use Rattle.ptree.specs.Style.{painted_text}
use Rattle.ptree.proofs.Reading.LastFlags.{length-last_flags}
use Rattle.ptree.proofs.Reading.Levels.{has_later_deeper, last_flags_same, entry_shown, tree_by_levels}
use Rattle.ptree.proofs.Reading.Paths.{passing_all-push}
use Rattle.ptree.proofs.Reading.SpelledForms.{tree_steps}
use Rattle.ptree.proofs.Drawing.TreeDrawing.{drawing_of_tree}

-- the first flags are those of fewer levels
last_flags_first : (o : List Line) (n j : ℕ) → j ≤ n → take j (last_flags o n) ≡ last_flags o j
last_flags_first o zero zero h = refl
last_flags_first o zero (suc j) h = absurd (omega (arith, h))
last_flags_first o (suc n) j h = elim (cases_lt n j) [
  | inl all ↦ ap (λ m. take m (last_flags o (suc n))) (same all) ∙ (take_all (suc n) (last_flags o (suc n)) (omega (arith, length-last_flags o (suc n))) ∙ ap (last_flags o) (sym (same all)))
  | inr fewer ↦ take-append-le j (last_flags o n) (not (has_later o (suc n)) ∷ []) (omega (arith, fewer, length-last_flags o n)) ∙ last_flags_first o n j fewer
] where
  same : n < j → j ≡ suc n
  same all = omega (arith, h, all)

-- the entry of a child is that of its line
entry_of_child : (look : Look) (path : List Bool) (o : List Line) (n : ℕ) (b : Bool) (text : List ℕ) → take n path ≡ last_flags o n → b ≡ not (has_later o (suc n))
    → entry_behind look path (suc n) b (painted_text look.leaf text) ≡ text_entry look (pieces_by look.pieces o (suc n)) (shown_by look.pieces o (line (suc n) text)) text
entry_of_child look path o n b text above last =
    let own : List ℕ = painted_text look.leaf text in
    let flags : List Bool = last_flags o n in
    let end : Bool = not (has_later o (suc n)) in
    let one : suc n - 1 ≡ n = omega arith in
    ap (λ m. entry_below look (take m path) (last_of (suc n) b) own) one
    ∙ (ap (λ f. entry_below look f (last_of (suc n) b) own) above
    ∙ (ap (λ r. entry_below look flags (cond r None (Some b)) own) (ne_eqb (suc n) 0 (omega arith))
    ∙ (ap (λ c. entry_below look flags (Some c) own) last
    ∙ (ap (λ q. text_entry look (pieces_by look.pieces o (suc n)) q text) (sym (passing_all-push look.pieces flags end))
    ∙ sym (entry_shown look (pieces_by look.pieces o (suc n)) (passing_by look.pieces o (suc n)) text)))))

-- the path of a child has the flags that the lines behind it give
path_of_child : (path : List Bool) (o : List Line) (n : ℕ) (b : Bool) → take n path ≡ last_flags o n → b ≡ not (has_later o (suc n)) → path_with path (suc n) b ≡ last_flags o (suc n)
path_of_child path o n b above last =
    let one : suc n - 1 ≡ n = omega arith in
    ap (λ r. cond r [] (take (suc n - 1) path ++ b ∷ [])) (ne_eqb (suc n) 0 (omega arith))
    ∙ (ap (λ m. take m path ++ b ∷ []) one ∙ (ap (λ f. f ++ b ∷ []) above ∙ ap (λ c. last_flags o n ++ c ∷ []) last))

-- the entries of items behind one at level n are the drawing of their lines
given_lines : (look : Look) (n : ℕ) (o : List Line) (path : List Bool) (items : List GivenItem) → Steps n o → path ≡ last_flags o n → AreGivenAs look o items → given_text look path items ≡ lines_text look o
given_lines look n [] path [] st keeps are = refl
given_lines look n [] path (i ∷ items) st keeps are = absurd are
given_lines look n (l ∷ o) path [] st keeps are = absurd are
given_lines look n (l ∷ o) path (i ∷ items) st keeps are =
    let is : IsGivenAs look l o i = are.0 in
    let j : ℕ = l.level - 1 in
    let level_is : l.level ≡ suc j = omega (arith, st.0) in
    let within : j ≤ n = omega (arith, st.0, st.1) in
    let above : take j path ≡ last_flags o j =
    ap (take j) keeps ∙ (last_flags_first (l ∷ o) n j within ∙ last_flags_same (l ∷ o) o j (λ m h. has_later_deeper l o m (omega (arith, h, st.0)))) in
    let last : i.last ≡ not (has_later o (suc j)) = is.last ∙ ap (λ m. not (has_later o m)) level_is in
    let at : i.level ≡ suc j = is.level ∙ level_is in
    let entry : entry_behind look path i.level i.last i.own ≡ text_entry look (pieces_by look.pieces o l.level) (shown_by look.pieces o (line l.level l.text)) l.text =
    ap (λ m. entry_behind look path m i.last i.own) at
    ∙ (ap (entry_behind look path (suc j) i.last) is.own
    ∙ (entry_of_child look path o j i.last l.text above last
    ∙ ap (λ m. text_entry look (pieces_by look.pieces o m) (shown_by look.pieces o (line m l.text)) l.text) (sym level_is))) in
    let next : path_with path i.level i.last ≡ last_flags o l.level = ap (λ m. path_with path m i.last) at ∙ (path_of_child path o j i.last above last ∙ ap (last_flags o) (sym level_is)) in
    ap (λ z. z ++ given_text look (path_with path i.level i.last) items) entry
    ∙ ap (λ z. text_entry look (pieces_by look.pieces o l.level) (shown_by look.pieces o l) l.text ++ z) (given_lines look l.level o (path_with path i.level i.last) items st.2 next are.1)

-- the entries of a tree's items are its drawing
pub draws_lines : (look : Look) → DrawsLines look
draws_lines look t path [] depth high are = absurd are
draws_lines look t path (i ∷ items) depth high are =
    let is = are.0 in
    let o : List Line = outline_at 1 t.children in
    let root : entry_behind look path i.level i.last i.own ≡ text_entry look [] [] t.text = ap (λ m. entry_behind look path m i.last i.own) is.level ∙ ap (entry_behind look path 0 i.last) is.own in
    let rest : given_text look (path_with path i.level i.last) items ≡ lines_text look o =
    given_lines look 0 o (path_with path i.level i.last) items (tree_steps t.children) (ap (λ m. path_with path m i.last) is.level) are.1 in
    (drawing_of_tree look depth t _ high).1
    (ap (λ z. z ++ given_text look (path_with path i.level i.last) items) root ∙ (ap (λ z. text_entry look [] [] t.text ++ z) rest ∙ sym (tree_by_levels look t)))

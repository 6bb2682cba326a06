-- The items of a tree, given one by one, are drawn as the tree.
use Rattle.std.proofs.Common.{◌≡◌, ℕ, ◌-◌, ◌≤◌, Bool, true, false, cond, eqb, List, [], ◌∷◌, ◌++◌, length, map, take, drop, refl, sym, ap, ◌∙◌, subst, append_assoc, arith}
use Rattle.std.proofs.Math.Seq.{take-append_seam}
use Rattle.std.proofs.lemmas.Bool.{eqb-true, eqb-false}
use Rattle.std.proofs.lemmas.List.{length-append, length-map, length-take-le, map-append, take-map, take-take}
use Rattle.ptree.specs.Drawing.{Look, IsDrawing}
use Rattle.ptree.specs.GivenItems.{last_of, entry_below, entry_behind, GivenItem, given_text, AreGivenAs}
use Rattle.ptree.specs.GivenItems as given
use Rattle.ptree.specs.ItemWriter.{path_of}
use Rattle.ptree.specs.Outline.{Line, outline, outline_at, Steps}
use Rattle.ptree.specs.Reached.{AreWithin}
use Rattle.ptree.specs.Style.{painted_text}
use Rattle.ptree.specs.Tree.{shape_of_tree}
use Rattle.ptree.specs.declared.output.writer.ItemWriter.{ItemWriter}
use Rattle.ptree.proofs.Drawing.GivenLines.{draws_lines}
use Rattle.ptree.proofs.Reading.SpelledForms.{tree_steps, low_height}
use Rattle.ptree_c.specs.Fields.{is_set}
use Rattle.ptree_c.specs.Outlines.{given_of}
use Rattle.ptree_c.specs.Steps.{path_flags, step_own, step_entry, path_with, path_after, steps_text, IsOnPath, AreStepsOf, DrawsTrees, DrawsParts}
use Rattle.ptree_c.specs.declared.steps.Step.{Step}
use Rattle.ptree_c.proofs.Walks.{with_length}

-- the first flags of a path
flags_first : (path : List ℕ) (n m : ℕ) → m ≤ n → take m (path_flags path n) ≡ path_flags path m
flags_first path n m h = take-map is_set m (take n path) ∙ ap (map is_set) (take-take m n path h)

-- a path with the flag of a level has the flags of a writer behind an item there
flags_with : (path : List ℕ) (n level last : ℕ) → level ≤ length path → level - 1 ≤ n → path_flags (path_with path level last) level ≡ given.path_with (path_flags path n) level (is_set last)
flags_with path n level last h few = at (eqb level 0) refl where
  at : (root : Bool) → eqb level 0 ≡ root
      → path_flags (cond root path (take (level - 1) path ++ last ∷ drop level path)) level ≡ cond root [] (take (level - 1) (path_flags path n) ++ is_set last ∷ [])
  at true e = ap (path_flags path) (eqb-true level 0 e)
  at false e =
      let above : List ℕ = take (level - 1) path in
      let wide : level ≡ length (above ++ last ∷ []) = omega (arith, eqb-false level 0 e, length-append above (last ∷ []), length-take-le (level - 1) path (omega (arith, h))) in
      let parts : above ++ last ∷ drop level path ≡ (above ++ last ∷ []) ++ drop level path = sym (append_assoc above (last ∷ []) (drop level path)) in
      ap (map is_set) (ap (take level) parts ∙ (ap (λ n. take n ((above ++ last ∷ []) ++ drop level path)) wide ∙ take-append_seam (above ++ last ∷ []) (drop level path)))
      ∙ (map-append is_set above (last ∷ []) ∙ ap (λ f. f ++ is_set last ∷ []) (sym (flags_first path n (level - 1) few)))

-- the entry of an item behind one of a path
pub entry_of_step : (look : Look) (texts path : List ℕ) (flags : List Bool) (s : Step) → s.level - 1 ≤ length flags → flags ≡ path_flags path (length flags)
    → entry_behind look flags s.level (is_set s.is_last) (step_own look texts s) ≡ step_entry look texts path s
entry_of_step look texts path flags s few is =
    ap (λ f. entry_below look f (last_of s.level (is_set s.is_last)) (step_own look texts s)) (ap (take (s.level - 1)) is ∙ flags_first path (length flags) (s.level - 1) few)

-- then the writer is on the path with its flag
pub on_path_with : (path : List ℕ) (old new : ItemWriter) (level last : ℕ) → level ≤ length path → IsOnPath path old → level - 1 ≤ length (path_of old)
    → path_of new ≡ given.path_with (path_of old) level (is_set last) → IsOnPath (path_with path level last) new
on_path_with path old new level last h on few is =
    let next : List ℕ = path_with path level last in
    let same : path_of new ≡ path_flags next level =
    is ∙ (ap (λ f. given.path_with f level (is_set last)) on.1 ∙ sym (flags_with path (length (path_of old)) level last h few)) in
    let long : length next ≡ length path = with_length path level last h in
    let wide : length (path_of new) ≡ level = ap length same ∙ (length-map (take level next) is_set ∙ length-take-le level next (omega (arith, h, long))) in
    (omega (arith, wide, h, long), same ∙ ap (path_flags next) (sym wide))

-- the steps of lines are given as the lines
pub are_given : (look : Look) (texts : List ℕ) (o : List Line) (steps : List Step) → AreStepsOf texts o steps → AreGivenAs look o (map (given_of look texts) steps)
are_given look texts [] [] are = tt
are_given look texts [] (s ∷ steps) are = absurd are
are_given look texts (l ∷ o) [] are = absurd are
are_given look texts (l ∷ o) (s ∷ steps) are =
    (record { level = are.0.level; own = ap (painted_text look.leaf) are.0.text; last = are.0.last }, are_given look texts o steps are.1)

-- the entries of steps behind an item at level n are those of the items that are given
steps_given : (look : Look) (texts : List ℕ) (n : ℕ) (o : List Line) (path : List ℕ) (steps : List Step) → Steps n o → AreWithin (length path) o → AreStepsOf texts o steps
    → steps_text look texts path steps ≡ given_text look (path_flags path n) (map (given_of look texts) steps)
steps_given look texts n [] path [] st low are = refl
steps_given look texts n [] path (s ∷ steps) st low are = absurd are
steps_given look texts n (l ∷ o) path [] st low are = absurd are
steps_given look texts n (l ∷ o) path (s ∷ steps) st low are =
    let level : s.level ≡ l.level = are.0.level in
    let few : s.level - 1 ≤ n = omega (arith, level, st.1) in
    let within : s.level ≤ length path = omega (arith, level, low.0) in
    let next : List ℕ = path_with path s.level s.is_last in
    let entry : step_entry look texts path s ≡ entry_behind look (path_flags path n) s.level (is_set s.is_last) (step_own look texts s) =
    ap (λ f. entry_below look f (last_of s.level (is_set s.is_last)) (step_own look texts s)) (sym (flags_first path n (s.level - 1) few)) in
    let rest = steps_given look texts s.level o next steps (subst (λ m. Steps m o) (sym level) st.2) (subst (λ m. AreWithin m o) (sym (with_length path s.level s.is_last within)) low.1) are.1 in
    ap (λ z. z ++ steps_text look texts next steps) entry
    ∙ ap (λ z. entry_behind look (path_flags path n) s.level (is_set s.is_last) (step_own look texts s) ++ z)
    (rest ∙ ap (λ f. given_text look f (map (given_of look texts) steps)) (flags_with path n s.level s.is_last within few))

-- the entries of a tree's items are its drawing
pub draws_trees : (look : Look) (texts : List ℕ) → DrawsTrees look texts
draws_trees look texts t path [] depth long high are = absurd are
draws_trees look texts t path (s ∷ steps) depth long high are =
    let level : s.level ≡ 0 = are.0.level in
    let o : List Line = outline_at 1 t.children in
    let own : List ℕ = step_own look texts s in
    let items : List GivenItem = map (given_of look texts) steps in
    let root : step_entry look texts path s ≡ entry_behind look [] s.level (is_set s.is_last) own =
    ap (λ m. entry_below look (path_flags path (m - 1)) (last_of m (is_set s.is_last)) own) level ∙ sym (ap (λ m. entry_behind look [] m (is_set s.is_last) own) level) in
    let rest : steps_text look texts (path_with path s.level s.is_last) steps ≡ given_text look (given.path_with [] s.level (is_set s.is_last)) items =
    ap (λ m. steps_text look texts (path_with path m s.is_last) steps) level
    ∙ (steps_given look texts 0 o path steps (tree_steps t.children) (low_height (length path) 0 t.children (omega (arith, long))) are.1
    ∙ sym (ap (λ m. given_text look (given.path_with [] m (is_set s.is_last)) items) level)) in
    let whole : steps_text look texts path (s ∷ steps) ≡ given_text look [] (map (given_of look texts) (s ∷ steps)) =
    ap (λ z. z ++ steps_text look texts (path_with path s.level s.is_last) steps) root ∙ ap (λ z. entry_behind look [] s.level (is_set s.is_last) own ++ z) rest in
    subst (λ z. IsDrawing look (shape_of_tree t) depth z) (sym whole) (draws_lines look t [] (map (given_of look texts) (s ∷ steps)) depth high (are_given look texts (outline t) (s ∷ steps) are))

-- the entries of items in two parts
pub draws_parts : (look : Look) (texts : List ℕ) → DrawsParts look texts
draws_parts look texts path [] b = refl
draws_parts look texts path (s ∷ a) b =
    let next : List ℕ = path_with path s.level s.is_last in
    ap (λ z. step_entry look texts path s ++ z) (draws_parts look texts next a b)
    ∙ sym (append_assoc (step_entry look texts path s) (steps_text look texts next a) (steps_text look texts (path_after next a) b))

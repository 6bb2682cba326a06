-- An outline determines its trees.
use Rattle.std.proofs.Common.{◌≡◌, ℕ, suc, ◌<◌, cond, eqb, ltb, List, [], ◌∷◌, ◌++◌, refl, sym, ap, ◌∙◌, append_assoc, append-nil, arith}
use Rattle.std.proofs.lemmas.Bool.{lt-ltb, le-ltb, eq-eqb, ne_eqb}
use Rattle.ptree.specs.Outline.{Line, line, outline_at, outline}
use Rattle.ptree.specs.Tree.{Forest, none, item, Tree, tree}

-- a forest followed by another
join : Forest → Forest → Forest
join none g = g
join (item t c r) g = item t c (join r g)

-- a row with none after it is itself
join_none : (f : Forest) → join f none ≡ f
unfolding join
join_none none = refl
join_none (item t c r) = ap (λ z. item t c z) (join_none r)

-- The forest at level k at the start of an outline. At the level of the first line it is a tree and
-- the forest after it. Below that level it is empty. Above that level it is the forest that the
-- later lines have.
rows : List Line → ℕ → Forest
rows [] k = none
rows (l ∷ o) k = cond (ltb k l.level) (rows o k) (cond (eqb k l.level) (item l.text (rows o (suc l.level)) (rows o l.level)) none)

-- below its level a line leaves the forest that the later lines have
rows_lower : (l : Line) (o : List Line) (k : ℕ) → k < l.level → rows (l ∷ o) k ≡ rows o k
unfolding rows
rows_lower l o k h = rw (lt-ltb k l.level h) refl

-- at its level a line adds an item to that forest
rows_here : (l : Line) (o : List Line) → rows (l ∷ o) l.level ≡ item l.text (rows o (suc l.level)) (rows o l.level)
unfolding rows
rows_here l o = rw (le-ltb l.level l.level (omega arith), eq-eqb l.level l.level refl) refl

-- above its level there is no forest before the line
rows_higher : (l : Line) (o : List Line) (k : ℕ) → l.level < k → rows (l ∷ o) k ≡ none
unfolding rows
rows_higher l o k h = rw (le-ltb k l.level (omega arith), ne_eqb k l.level (omega arith)) refl

-- what the lines of a forest at level n leave: the later lines' forests below n, the two joined at
-- n, and none above
record Rows (n : ℕ) (f : Forest) (o : List Line) : Type 0 where
  lower : (k : ℕ) → k < n → rows (outline_at n f ++ o) k ≡ rows o k
  here : rows (outline_at n f ++ o) n ≡ join f (rows o n)
  higher : (k : ℕ) → n < k → rows (outline_at n f ++ o) k ≡ none

-- what the forests are before the lines of one, if no later line is deeper
rows_of : (n : ℕ) (f : Forest) (o : List Line) → ((k : ℕ) → n < k → rows o k ≡ none) → Rows n f o
unfolding join rows
rows_of n none o h = record { lower = λ k l. refl; here = refl; higher = h }
rows_of n (item t c r) o h =
    let after = rows_of n r o h in
    let below = rows_of (suc n) c (outline_at n r ++ o) (λ k l. after.higher k (omega arith)) in
    let regrouped : (outline_at (suc n) c ++ outline_at n r) ++ o ≡ outline_at (suc n) c ++ (outline_at n r ++ o) = append_assoc (outline_at (suc n) c) (outline_at n r) o in
    let children : rows ((outline_at (suc n) c ++ outline_at n r) ++ o) (suc n) ≡ c =
    ap (λ z. rows z (suc n)) regrouped ∙ (below.here ∙ (ap (λ z. join c z) (after.higher (suc n) (omega arith)) ∙ join_none c)) in
    let row : rows ((outline_at (suc n) c ++ outline_at n r) ++ o) n ≡ join r (rows o n) =
    ap (λ z. rows z n) regrouped ∙ (below.lower n (omega arith) ∙ after.here) in
    record {
      lower = λ k l. rows_lower (line n t) ((outline_at (suc n) c ++ outline_at n r) ++ o) k l ∙ (ap (λ z. rows z k) regrouped ∙ (below.lower k (omega arith) ∙ after.lower k l));
      here = rows_here (line n t) ((outline_at (suc n) c ++ outline_at n r) ++ o) ∙ (ap (λ z. item t z (rows ((outline_at (suc n) c ++ outline_at n r) ++ o) n)) children ∙ ap (λ z. item t c z) row);
      higher = λ k l. rows_higher (line n t) ((outline_at (suc n) c ++ outline_at n r) ++ o) k l;
    }

-- the forest that has an outline
forest_from : (n : ℕ) (f : Forest) → rows (outline_at n f) n ≡ f
unfolding rows
forest_from n f =
    ap (λ z. rows z n) (sym (append-nil (outline_at n f))) ∙ ((rows_of n f [] (λ k l. refl)).here ∙ join_none f)

-- forests with one outline are equal
pub same_forest : (n : ℕ) (f g : Forest) → outline_at n f ≡ outline_at n g → f ≡ g
same_forest n f g e = sym (forest_from n f) ∙ (ap (λ z. rows z n) e ∙ forest_from n g)

-- trees with one outline are equal
pub same_tree : (t u : Tree) → outline t ≡ outline u → t ≡ u
same_tree t u e =
    let firsts : line 0 t.text ≡ line 0 u.text = cc in
    let texts : t.text ≡ u.text = ap (λ (l : Line). l.text) firsts in
    let rests : outline_at 1 t.children ≡ outline_at 1 u.children = cc in
    let children = same_forest 1 t.children u.children rests in
    let with_text : t ≡ tree u.text t.children = ap (λ z. tree z t.children) texts in
    with_text ∙ ap (λ z. tree u.text z) children

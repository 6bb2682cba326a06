-- Drawings of two trees in one that a terminal may get.
use Rattle.std.specs.Prelude.{◌⊎◌, ⊤, codes, unwrap_or}
use Rattle.std.specs.Str.{bytes_eq, NoCharPasses}
use Rattle.trees.proofs.Common.{◌≡◌, ℕ, ◌++◌, Bool, true, false, cond, List, [], ◌∷◌, map, Option, Some, None, inl, inr, refl, sym, ap, ◌∙◌, subst, true≢false, NoCharPasses-append, Address, ConfigValue, look_by, own_at, StyleValue, painted_text, HasNoLineFeed, escaped_text}
use Rattle.ptree.specs.declared.print_config.OutputKind.TheVariants.{Unknown}
use Rattle.ptree.specs.Tree.{Forest, none, item, Tree}
use Rattle.ptree.proofs.Drawing.Joined.{own_of_kids}
use Rattle.ptree.proofs.Trees.Shapes.{kids_of_unfold}
use Rattle.trees.specs.declared.compare.Look.{Look}
use Rattle.trees.specs.declared.compare.Side.{Side}
use Rattle.trees.specs.declared.compare.Side.TheVariants.{Left, Right}
use Rattle.trees.specs.Merging.{Merge, nothing, shared, alone, StyledForest, no_items, styled, StyledTree, styled_trees, own_text, shape_of_styled, side_mark, side_style, marked_text, marked_forest, shown_merge, roots_text, look_of, IsMergeDrawing, IsMergeCode}
use Rattle.trees.specs.Shown.{shown_config, is_raw, IsShown}
use Rattle.trees.proofs.ShownDrawings.{shape_shown}
use Rattle.trees.proofs.ShownTexts.{ascii_text, feed_calm, escaped_calm, none_shown, calm_shown, painted_shown, code_line, look_code_line}

-- the mark of a text that is in one tree alone
pub mark_calm : (side : Side) → NoCharPasses is_raw (side_mark side)
mark_calm Left = ascii_text (codes "- ") refl
mark_calm Right = ascii_text (codes "+ ") refl

module _ (config : ConfigValue) where
  -- how both trees are shown on a terminal
  abbrev look : Look
  look = look_of config true

  -- ## Texts

  -- a text behind a mark
  marked_calm : (side : Side) (text : List ℕ) → NoCharPasses is_raw (marked_text look side text)
  marked_calm side text = NoCharPasses-append is_raw (side_mark side) (escaped_text text) (mark_calm side) (escaped_calm text)

  -- the text of both roots
  roots_calm : (t u : List ℕ) → NoCharPasses is_raw (roots_text look t u)
  roots_calm t u = by_test (bytes_eq t u) where
    both : NoCharPasses is_raw (marked_text look Left t ++ 10 ∷ marked_text look Right u)
    both = NoCharPasses-append is_raw (marked_text look Left t) (10 ∷ marked_text look Right u) (marked_calm Left t) (NoCharPasses-append is_raw (10 ∷ []) (marked_text look Right u) feed_calm (marked_calm Right u))

    by_test : (b : Bool) → NoCharPasses is_raw (cond b (escaped_text t) (marked_text look Left t ++ 10 ∷ marked_text look Right u))
    by_test true = escaped_calm t
    by_test false = both

  -- ## Trees

  -- a text without a raw character, in the style of leaves or of what is in one tree alone
  abbrev IsShownItem : List ℕ → Option StyleValue → Type 0
  IsShownItem text style = NoCharPasses is_raw text × ((style ≡ None) ⊎ ((side : Side) × (style ≡ side_style look side)))

  -- each item of a forest is such
  abbrev AreShown : StyledForest → Type 0
  AreShown no_items = ⊤
  AreShown (styled t s c rest) = IsShownItem t s × AreShown c × AreShown rest

  -- a forest that is in one tree alone
  alone_shown : (side : Side) (f : Forest) → AreShown (marked_forest look side f)
  alone_shown side none = tt
  alone_shown side (item t c r) = ((marked_calm side t, inr (side, refl)), alone_shown side c, alone_shown side r)

  -- a merge
  merge_shown : (m : Merge) → AreShown (shown_merge look m)
  merge_shown nothing = tt
  merge_shown (shared t below rest) = ((escaped_calm t, inl refl), merge_shown below, merge_shown rest)
  merge_shown (alone side t c rest) = ((marked_calm side t, inr (side, refl)), alone_shown side c, merge_shown rest)

  -- a tree whose items are such
  abbrev ShownTree : Type 0
  ShownTree = (t : StyledTree) × IsShownItem t.text t.style × AreShown t.children

  -- the trees of such a forest
  abbrev below : (f : StyledForest) → AreShown f → List ShownTree
  below no_items h = []
  below (styled t s c rest) h = (record { text = t; style = s; children = c }, h.0, h.1) ∷ below rest h.2

  -- they are its trees
  below_are : (f : StyledForest) (h : AreShown f) → map shape_of_styled (styled_trees f) ≡ map (λ (x : ShownTree). shape_of_styled x.0) (below f h)
  below_are no_items h = refl
  below_are (styled t s c rest) h = ap (λ xs. shape_of_styled (record { text = t; style = s; children = c }) ∷ xs) (below_are rest h.2)

  -- ## Drawings

  -- the codes of such a drawing hold no line feed
  merge_code_line : (part : List ℕ) → IsMergeCode config part → HasNoLineFeed part
  merge_code_line part (inl code) = look_code_line (look_by config Unknown false) part code
  merge_code_line part (inr (side, style, is, code)) = code_line style part code

  -- the own bytes of an item
  own_shown : (t : StyledTree) → IsShownItem t.text t.style → IsShown (IsMergeCode config) (own_text t (look_by config Unknown false).leaf)
  own_shown t h = by_style t.style h.1 where
    leaf : StyleValue
    leaf = (look_by config Unknown false).leaf

    text : IsShown (IsMergeCode config) t.text
    text = calm_shown (IsMergeCode config) t.text h.0

    plain : IsShown (IsMergeCode config) (painted_text leaf t.text)
    plain = painted_shown (IsMergeCode config) leaf (λ part is. inl (inr is)) t.text text

    by_side : (side : Side) (o : Option StyleValue) → side_style look side ≡ o → IsShown (IsMergeCode config) (painted_text (unwrap_or o leaf) t.text)
    by_side side None is = plain
    by_side side (Some style) is = painted_shown (IsMergeCode config) style (λ part code. inr (side, style, is, code)) t.text text

    by_style : (s : Option StyleValue) → (s ≡ None) ⊎ ((side : Side) × (s ≡ side_style look side)) → IsShown (IsMergeCode config) (painted_text (unwrap_or s leaf) t.text)
    by_style s (inl is) = subst (λ o. IsShown (IsMergeCode config) (painted_text (unwrap_or o leaf) t.text)) (sym is) plain
    by_style s (inr (side, is)) = by_side side s (sym is)

  -- those of a merge
  own_of_merge : (x : ShownTree) (a : Address) → IsShown (IsMergeCode config) (own_at (look_by config Unknown false) (shape_of_styled x.0) a)
  own_of_merge =
      own_of_kids (IsShown (IsMergeCode config)) (none_shown (IsMergeCode config)) (look_by config Unknown false) (λ (x : ShownTree). shape_of_styled x.0) (λ (x : ShownTree). below x.0.children x.2)
      (λ x. own_shown x.0 x.1)
      (λ x. sym (kids_of_unfold own_text (λ t. styled_trees t.children) x.0) ∙ below_are x.0.children x.2)

-- the drawing of two trees in one, on a terminal
pub merge_drawing_shown : (b : Bool) (config : ConfigValue) (t u : Tree) (bytes : List ℕ) → IsMergeDrawing (shown_config b config) b t u bytes → b ≡ true → IsShown (IsMergeCode (shown_config b config)) bytes
merge_drawing_shown false config t u bytes drawn e = absurd (true≢false (sym e))
merge_drawing_shown true config t u bytes drawn e =
    let value : ConfigValue = shown_config true config in
    let both = drawn.1 in
    let below' : AreShown value drawn.0.children = subst (AreShown value) (sym both.below.is) (merge_shown value both.below.merge) in
    let text : NoCharPasses is_raw drawn.0.text = subst (NoCharPasses is_raw) (sym both.text) (roots_calm value t.text u.text) in
    let x : ShownTree value = (drawn.0, (text, inl both.style), below') in
    shape_shown config (IsMergeCode value) (λ part is. inl is) (merge_code_line value) (shape_of_styled drawn.0) bytes (own_of_merge value x) drawn.2

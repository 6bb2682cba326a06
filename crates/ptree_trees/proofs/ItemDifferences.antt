-- Where the trees of two lists of lines differ first.
use Rattle.std.specs.Prelude.{◌≢◌, slice_get, option_map, unwrap_or}
use Rattle.std.proofs.Common.{◌≡◌, ◌∙◌, ℕ, suc, ◌+◌, ◌⊎◌, inl, inr, List, [], ◌∷◌, ◌++◌, map, reverse, Option, Some, None, ap, sym, refl, subst, append_assoc, append-nil, arith}
use Rattle.std.proofs.lemmas.Bool.{lt-ltb, le-ltb}
use Rattle.ptree.specs.Address.{Address}
use Rattle.ptree.specs.Outline.{Line, line, outline_at, outline}
use Rattle.ptree.specs.ReadItems.{read_text_of}
use Rattle.ptree.specs.Tree.{Forest, none, item, Tree, tree, trees, tree_kids}
use Rattle.ptree_trees.specs.Difference.{texts_above, IsTextDifference}
use Rattle.ptree_trees.specs.Found.{IsFirst, first_below, AreBehind, AreTreeAt}
use Rattle.ptree_trees.specs.declared.difference.ItemDifference.{ItemDifference}
use Rattle.ptree_trees.proofs.Differences.{AreSameTo, differ_at_child, differ_below, same_to_none, same_to_next, same_to_end}

-- ## Texts

-- the text of a tree, if there is one
abbrev text_of : Option Tree → Option (List ℕ)
text_of o = option_map (λ t. t.text) o

-- where trees differ, by their texts
by_texts : (t u : Tree) (a : Address) (above : List (List ℕ)) (x y : Option Tree) → IsFirst t u a x y → above ≡ texts_above t a → IsTextDifference t u a above (text_of x) (text_of y)
by_texts t u a above x y h is = record { differ = h.differ; least = h.least; above_are = is; left_is = ap text_of h.left; right_is = ap text_of h.right }

-- roots with different texts
pub roots_differ : (t u : Tree) (a b : List ℕ) → a ≡ t.text → b ≡ u.text → a ≢ b → IsTextDifference t u [] [] (Some a) (Some b)
roots_differ t u a b left right other = record { differ = λ e. other (left ∙ (cc) ∙ sym right); least = λ b never. absurd never; above_are = refl; left_is = ap Some left; right_is = ap Some right }

-- ## Lines that are left

-- these lines are those of a tree's children from one on, and of all below them, and then the rest
pub record AreKidsFrom (n : ℕ) (t : Tree) (i : ℕ) (rest lines : List Line) : Type 0 where
  pub forest : Forest
  pub lines_are : lines ≡ outline_at (suc n) forest ++ rest
  pub behind : AreBehind n rest
  pub kids : (k : ℕ) → slice_get (tree_kids t) (i + k) ≡ slice_get (trees forest) k

-- behind the root's line they are those of all children
kids_start : (n : ℕ) (t : Tree) (rest : List Line) → AreBehind n rest → AreKidsFrom n t 0 rest (outline_at (suc n) t.children ++ rest)
kids_start n t rest behind = record { forest = t.children; lines_are = refl; behind = behind; kids = λ k. let same : 0 + k ≡ k = omega arith in ap (slice_get (tree_kids t)) same }

-- no child is left, and these are the rest
record IsNoChild (n : ℕ) (t : Tree) (i : ℕ) (rest lines : List Line) : Type 0 where
  is : slice_get (tree_kids t) i ≡ None
  text : first_below n lines ≡ None
  left : lines ≡ rest

-- the lines of a child are the first ones, and behind them are those of the others
record IsNextChild (n : ℕ) (t : Tree) (i : ℕ) (rest lines : List Line) : Type 0 where
  child : Tree
  others : List Line
  is : slice_get (tree_kids t) i ≡ Some child
  text : first_below n lines ≡ Some child.text
  here : AreTreeAt (suc n) child others lines
  next : AreKidsFrom n t (i + 1) rest others

-- what is left
kid_or_none : (n : ℕ) (t : Tree) (i : ℕ) (rest lines : List Line) → AreKidsFrom n t i rest lines → IsNoChild n t i rest lines ⊎ IsNextChild n t i rest lines
kid_or_none n t i rest lines h = at h.forest h.lines_are h.kids where
  here : i + 0 ≡ i
  here = omega arith

  behind_all : (r : Forest) → AreBehind (suc n) (outline_at (suc n) r ++ rest)
  behind_all none = later rest h.behind where
    later : (o : List Line) → AreBehind n o → AreBehind (suc n) o
    later [] b = tt
    later (l ∷ o) b = omega (arith, b)
  behind_all (item x c r) = omega arith

  gone : (o : List Line) → AreBehind n o → first_below n o ≡ None
  gone [] b = refl
  gone (l ∷ o) b = rw (le-ltb n l.level b) refl

  at : (f : Forest) → lines ≡ outline_at (suc n) f ++ rest → ((k : ℕ) → slice_get (tree_kids t) (i + k) ≡ slice_get (trees f) k) → IsNoChild n t i rest lines ⊎ IsNextChild n t i rest lines
  at none is kids = inl (record { is = ap (slice_get (tree_kids t)) (sym here) ∙ kids 0; text = ap (first_below n) is ∙ gone rest h.behind; left = is })
  at (item x c r) is kids = inr (record {
    child = tree x c;
    others = outline_at (suc n) r ++ rest;
    is = ap (slice_get (tree_kids t)) (sym here) ∙ kids 0;
    text = ap (first_below n) is ∙ rw (lt-ltb n (suc n) (omega arith)) refl;
    here = record { lines_are = is ∙ ap (λ z. line (suc n) x ∷ z) (append_assoc (outline_at (suc (suc n)) c) (outline_at (suc n) r) rest); behind = behind_all r };
    next = record { forest = r; lines_are = refl; behind = h.behind; kids = λ k. let same : i + 1 + k ≡ i + suc k = omega arith in ap (slice_get (tree_kids t)) same ∙ kids (suc k) };
  })

-- ## Both lists

-- in both the children of two trees from one on are left, and those before it are the same
pub record AreSoFar (n : ℕ) (t u : Tree) (i : ℕ) (rest more left right : List Line) : Type 0 where
  pub left_kids : AreKidsFrom n t i rest left
  pub right_kids : AreKidsFrom n u i more right
  pub same : AreSameTo t u i

-- behind roots with the same text
pub so_far_start : (n : ℕ) (t u : Tree) (rest more : List Line) → AreBehind n rest → AreBehind n more → t.text ≡ u.text → AreSoFar n t u 0 rest more (outline_at (suc n) t.children ++ rest) (outline_at (suc n) u.children ++ more)
so_far_start n t u rest more l r e = record { left_kids = kids_start n t rest l; right_kids = kids_start n u more r; same = same_to_none t u e }

module _ {n : ℕ} {t u : Tree} {i : ℕ} {rest more left right : List Line} (h : AreSoFar n t u i rest more left right) where
  -- the texts of the next children, if they are not the same, are those of the first difference
  pub so_far_differ : first_below n left ≢ first_below n right → IsTextDifference t u (i ∷ []) (t.text ∷ []) (first_below n left) (first_below n right)
  so_far_differ other =
      let l = text_there t rest left h.left_kids in
      let r = text_there u more right h.right_kids in
      subst (λ a. IsTextDifference t u (i ∷ []) (t.text ∷ []) a (first_below n right)) (sym l)
      (subst (IsTextDifference t u (i ∷ []) (t.text ∷ []) (text_of (slice_get (tree_kids t) i))) (sym r)
      (by_texts t u (i ∷ []) (t.text ∷ []) _ _ (differ_at_child t u i _ _ h.same refl refl (λ e. other (l ∙ e ∙ sym r))) (above (slice_get (tree_kids t) i)))) where
        above : (o : Option Tree) → t.text ∷ [] ≡ t.text ∷ unwrap_or (option_map (λ c. []) o) []
        above None = refl
        above (Some c) = refl

        text_there : (t : Tree) (rest lines : List Line) → AreKidsFrom n t i rest lines → first_below n lines ≡ text_of (slice_get (tree_kids t) i)
        text_there t rest lines k = elim (kid_or_none n t i rest lines k) [
          | inl gone ↦ gone.text ∙ ap text_of (sym gone.is)
          | inr some ↦ some.text ∙ ap text_of (sym some.is)
        ]

  -- if none is left, the trees are equal, and the rest is left
  pub so_far_end : first_below n left ≡ None → first_below n right ≡ None → (t ≡ u) × (left ≡ rest) × (right ≡ more)
  so_far_end l r = grind (arith, kid_or_none n t i rest left h.left_kids, kid_or_none n u i more right h.right_kids, same_to_end t u i h.same)

-- the next children of two trees, whose lines are these
pub record AreNext (n : ℕ) (t u : Tree) (i : ℕ) (rest more left right : List Line) : Type 0 where
  pub child : Tree
  pub other : Tree
  pub behind_child : List Line
  pub behind_other : List Line
  pub child_here : AreTreeAt (suc n) child behind_child left
  pub other_here : AreTreeAt (suc n) other behind_other right
  pub equal : child ≡ other → AreSoFar n t u (i + 1) rest more behind_child behind_other
  pub below : (d : ItemDifference) → IsTextDifference child other (reverse d.address.items) (map read_text_of (reverse d.above.items)) (option_map read_text_of d.left) (option_map read_text_of d.right)
      → IsTextDifference t u (i ∷ reverse d.address.items) (t.text ∷ map read_text_of (reverse d.above.items)) (option_map read_text_of d.left) (option_map read_text_of d.right)

-- there are such if both have a text there
pub so_far_next : (n : ℕ) (t u : Tree) (i : ℕ) (rest more left right : List Line) → AreSoFar n t u i rest more left right → first_below n left ≢ None → first_below n right ≢ None → AreNext n t u i rest more left right
so_far_next n t u i rest more left right h l r = elim (kid_or_none n t i rest left h.left_kids) [
  | inl gone ↦ absurd (l gone.text)
  | inr a ↦ elim (kid_or_none n u i more right h.right_kids) [
    | inl gone ↦ absurd (r gone.text)
    | inr b ↦ record {
      child = a.child;
      other = b.child;
      behind_child = a.others;
      behind_other = b.others;
      child_here = a.here;
      other_here = b.here;
      equal = λ same. record { left_kids = a.next; right_kids = b.next; same = same_to_next t u a.child b.child i h.same a.is b.is same };
      below = λ d f.
          let below = differ_below t u a.child b.child i _ _ _ h.same a.is b.is (record { differ = f.differ; least = f.least; left = refl; right = refl }) in
          record {
            differ = below.differ;
            least = below.least;
            above_are = ap (λ z. t.text ∷ z) f.above_are ∙ ap (λ z. t.text ∷ unwrap_or (option_map (λ c. texts_above c (reverse d.address.items)) z) []) (sym a.is);
            left_is = f.left_is ∙ ap text_of below.left;
            right_is = f.right_is ∙ ap text_of below.right;
          };
    }
  ]
]

-- ## Whole lists

-- the lines of a tree are those of its root and below
pub whole_tree : (t : Tree) → AreTreeAt 0 t [] (outline t)
whole_tree t = record { lines_are = sym (append-nil (outline t)); behind = tt }

-- Where trees differ first.
use Rattle.std.specs.Prelude.{◌≢◌, slice_get, option_map, option_and_then}
use Rattle.std.proofs.Common.{◌≡◌, ◌∙◌, ℕ, zero, suc, ◌<◌, ◌+◌, inl, inr, List, [], ◌∷◌, Option, Some, None, ap, sym, refl, subst, arith, below_more}
use Rattle.ptree.specs.Address.{Address, at, Before}
use Rattle.ptree.specs.Tree.{Forest, none, item, Tree, tree, trees, forest, tree_kids}
use Rattle.ptree_trees.specs.Difference.{text_at_address}
use Rattle.ptree_trees.specs.Found.{IsFirst}

-- the roots' texts are the same, and so are the first n children
pub record AreSameTo (t u : Tree) (n : ℕ) : Type 0 where
  pub text : t.text ≡ u.text
  pub kids : (i : ℕ) → i < n → slice_get (tree_kids t) i ≡ slice_get (tree_kids u) i

-- what stands at a child's position is the child
at_child : (t : Tree) (i : ℕ) (x : Option Tree) → slice_get (tree_kids t) i ≡ x → at tree_kids t (i ∷ []) ≡ x
at_child t i x e = grind (arith, e)

-- what stands below a child's position is what stands below the child
at_below : (t c : Tree) (i : ℕ) (a : Address) → slice_get (tree_kids t) i ≡ Some c → at tree_kids t (i ∷ a) ≡ at tree_kids c a
at_below t c i a e = ap (option_and_then (λ d. at tree_kids d a)) e

-- trees that are the same to child i are the same at each address before one that begins there, if
-- they are at those that begin there too
same_before : (t u : Tree) (i : ℕ) (a b : Address) → AreSameTo t u i → ((r : Address) → Before r a → text_at_address t (i ∷ r) ≡ text_at_address u (i ∷ r)) → Before b (i ∷ a) → text_at_address t b ≡ text_at_address u b
same_before t u i a [] s f p = ap Some s.text
same_before t u i a (j ∷ r) s f (inl l) = ap (λ o. option_map (λ y. y.text) (option_and_then (λ c. at tree_kids c r) o)) (s.kids j l)
same_before t u i a (j ∷ r) s f (inr q) = subst (λ (k : ℕ). text_at_address t (k ∷ r) ≡ text_at_address u (k ∷ r)) (sym q.0) (f r q.1)

-- trees that are the same to child i differ first there, if one of them has no such child
pub differ_at_child : (t u : Tree) (i : ℕ) (x y : Option Tree) → AreSameTo t u i → slice_get (tree_kids t) i ≡ x → slice_get (tree_kids u) i ≡ y
    → option_map {U = List ℕ} (λ c. c.text) x ≢ option_map (λ c. c.text) y → IsFirst t u (i ∷ []) x y
differ_at_child t u i x y s p q h =
    let l = at_child t i x p in
    let r = at_child u i y q in
    record {
      differ = λ e. h (sym (ap (option_map (λ c. c.text)) l) ∙ e ∙ ap (option_map (λ c. c.text)) r);
      least = λ b k. same_before t u i [] b s (λ r none_before. absurd none_before) k;
      left = sym l;
      right = sym r;
    }

-- trees that are the same to child i differ first where those children do
pub differ_below : (t u c d : Tree) (i : ℕ) (a : Address) (x y : Option Tree) → AreSameTo t u i → slice_get (tree_kids t) i ≡ Some c → slice_get (tree_kids u) i ≡ Some d
    → IsFirst c d a x y → IsFirst t u (i ∷ a) x y
differ_below t u c d i a x y s p q h =
    let text = λ (o : Option Tree). option_map {U = List ℕ} (λ z. z.text) o in
    record {
      differ = λ e. h.differ (sym (ap text (at_below t c i a p)) ∙ e ∙ ap text (at_below u d i a q));
      least = λ b k. same_before t u i a b s (λ r m. ap text (at_below t c i r p) ∙ h.least r m ∙ sym (ap text (at_below u d i r q))) k;
      left = h.left ∙ sym (at_below t c i a p);
      right = h.right ∙ sym (at_below u d i a q);
    }

-- trees with the same text are the same to child 0
pub same_to_none : (t u : Tree) → t.text ≡ u.text → AreSameTo t u 0
same_to_none t u e = record { text = e; kids = λ i l. absurd (omega arith) }

-- trees that are the same to child i, and there, are the same to the next child
pub same_to_next : (t u c d : Tree) (i : ℕ) → AreSameTo t u i → slice_get (tree_kids t) i ≡ Some c → slice_get (tree_kids u) i ≡ Some d → c ≡ d → AreSameTo t u (i + 1)
same_to_next t u c d i s p q e = record {
  text = s.text;
  kids = below_more (λ j. slice_get (tree_kids t) j ≡ slice_get (tree_kids u) j) i s.kids (p ∙ ap Some e ∙ sym q);
}

-- lists that end at n, and are the same before, are the same
same_lists : {X : Type 0} (xs ys : List X) (n : ℕ) → ((i : ℕ) → i < n → slice_get xs i ≡ slice_get ys i) → slice_get xs n ≡ None → slice_get ys n ≡ None → xs ≡ ys
same_lists [] [] n f p q = refl
same_lists [] (y ∷ ys) n f p q = grind (arith, f 0)
same_lists (x ∷ xs) [] n f p q = grind (arith, f 0)
same_lists (x ∷ xs) (y ∷ ys) zero f p q = absurd (cc)
same_lists (x ∷ xs) (y ∷ ys) (suc n) f p q =
    let e = f 0 (omega arith) in
    let rest = same_lists xs ys n (λ i l. f (suc i) (omega arith)) p q in
    cc

-- the forest of a forest's trees is the forest
pub forest_of_trees : (f : Forest) → forest (trees f) ≡ f
forest_of_trees none = refl
forest_of_trees (item t c r) = ap (λ z. item t c z) (forest_of_trees r)

-- trees that are the same to child n, where both have no more children, are equal
pub same_to_end : (t u : Tree) (n : ℕ) → AreSameTo t u n → slice_get (tree_kids t) n ≡ None → slice_get (tree_kids u) n ≡ None → t ≡ u
same_to_end t u n s p q =
    let lists = same_lists (tree_kids t) (tree_kids u) n s.kids p q in
    let kids = sym (forest_of_trees t.children) ∙ ap forest lists ∙ forest_of_trees u.children in
    ap (λ z. tree z t.children) s.text ∙ ap (λ z. tree u.text z) kids

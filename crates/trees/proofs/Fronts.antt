-- The passing pieces behind which an item could follow a line.
use Rattle.trees.proofs.Common.{◌≡◌, ◌≢◌, ℕ, suc, ◌<◌, ◌≤◌, ◌⊎◌, inl, inr, Bool, true, false, List, [], ◌∷◌, ◌++◌, length, length-append, get_or, refl, sym, ap, ◌∙◌, subst, All, arith, append_cancel_left, All-nil, All-cons, All-append, IsReadable, ArePassing, IsPrefixOf, passing_all-push}
use Rattle.ptree.specs.Pieces.{Pieces, turning_piece, passing_piece}
use Rattle.trees.specs.Expected.{EndsBelow, AreFronts, AddsTexts}
use Rattle.trees.proofs.DistinctTexts.{distinct_both, all_contained, texts_none, texts_one, texts_two}

-- a text, and a passing piece behind it
abbrev pub EndsPassing : Pieces → List ℕ → List ℕ → Type 0
EndsPassing p front text = (last : Bool) × (text ≡ front ++ passing_piece p last)

-- a passing piece is not empty
passing_some : (p : Pieces) → IsReadable p → (b : Bool) → 0 < length (passing_piece p b)
passing_some p h b = at (passing_piece p b) refl where
  at : (x : List ℕ) → passing_piece p b ≡ x → 0 < length x
  at [] e = absurd ((h.turning_passing b b).1 (turning_piece p b, ap (λ z. z ++ turning_piece p b) (sym e)))
  at (c ∷ x) e = omega arith

-- one passing piece more
passing_more : (p : Pieces) (front text : List ℕ) → (level : ℕ) × ArePassing p level front → EndsPassing p front text → (level : ℕ) × ArePassing p level text
passing_more p front text (n, (above, count, is)) (last, ends) =
    (suc n, (above ++ last ∷ [], longer, ends ∙ (ap (λ z. z ++ passing_piece p last) is ∙ sym (passing_all-push p above last))))
  where
    longer : length (above ++ last ∷ []) ≡ suc n
    longer = omega (arith, count, length-append above (last ∷ []))

-- it makes the text longer
longer_by_piece : (p : Pieces) → IsReadable p → (front text : List ℕ) → EndsPassing p front text → length front < length text
longer_by_piece p h front text (last, ends) = omega (arith, passing_some p h last, ap length ends, length-append front (passing_piece p last))

-- passing pieces at some level
abbrev pub PassesSome : Pieces → List ℕ → Type 0
PassesSome p front = (level : ℕ) × ArePassing p level front

-- different passing pieces, all shorter than the next ones
pub record AreFrontsBelow (p : Pieces) (fronts : List (List ℕ)) (front : List ℕ) : Type 0 where
  pub are : AreFronts p fronts
  pub next : PassesSome p front
  pub shorter : All (λ f. length f < length front) fronts

-- different passing pieces, none longer than the last ones
pub record AreFrontsTo (p : Pieces) (fronts : List (List ℕ)) (front : List ℕ) : Type 0 where
  pub are : AreFronts p fronts
  pub last : PassesSome p front
  pub short : All (λ f. length f ≤ length front) fronts

-- texts that are shorter and longer are different
apart_by_length : (n : ℕ) (xs ys : List (List ℕ)) → All (λ f. length f ≤ n) xs → All (λ f. n < length f) ys → All (λ x. All (λ y. x ≢ y) ys) xs
apart_by_length n xs ys h k = λ i d low. λ j e below. λ same. let long = ap length same in omega (arith, h i d low, k j e below, long)

-- the next ones are added
pub front_added : (p : Pieces) (fronts new : List (List ℕ)) (front : List ℕ) → new ≡ fronts ++ front ∷ [] → AreFrontsBelow p fronts front → AreFrontsTo p new front
front_added p fronts new front is h = subst (λ z. AreFrontsTo p z front) (sym is) record {
  are = (
    All-append (PassesSome p) fronts (front ∷ []) h.are.0 (All-cons (PassesSome p) front [] h.next (All-nil (PassesSome p))),
    distinct_both fronts (front ∷ []) h.are.1 (All-nil (λ y. front ≢ y), tt) (λ i d low. All-cons (λ y. get_or fronts i d ≢ y) front [] (λ same. let long = ap length same in omega (arith, h.shorter i d low, long)) (All-nil (λ y. get_or fronts i d ≢ y))),
  );
  last = h.next;
  short = All-append (λ f. length f ≤ length front) fronts (front ∷ []) (λ k d low. let less = h.shorter k d low in omega arith) (All-cons (λ f. length f ≤ length front) front [] (omega arith) (All-nil (λ f. length f ≤ length front)));
}

-- those of the next level are longer
pub front_longer : (p : Pieces) → IsReadable p → (fronts : List (List ℕ)) (front text : List ℕ) → EndsPassing p front text → AreFrontsTo p fronts front → AreFrontsBelow p fronts text
front_longer p r fronts front text ends h = record {
  are = h.are;
  next = passing_more p front text h.last ends;
  shorter = λ k d low. omega (arith, h.short k d low, longer_by_piece p r front text ends);
}

-- those below are added
pub fronts_below : (p : Pieces) → IsReadable p → (fronts new : List (List ℕ)) (front rest : List ℕ) → AreFrontsTo p fronts front → AddsTexts (EndsBelow p front rest) fronts new → AreFronts p new
fronts_below p r fronts new front rest h (more, is, exact, apart) =
    let ends : All (EndsPassing p front) more = all_contained (EndsPassing p front) more (λ x there. let so = (exact x).0 there in (so.0, so.2)) in
    subst (AreFronts p) (sym is) (
      All-append (PassesSome p) fronts more h.are.0 (λ k d low. passing_more p front _ h.last (ends k d low)),
      distinct_both fronts more h.are.1 apart (apart_by_length (length front) fronts more h.short (λ k d low. longer_by_piece p r front _ (ends k d low))),
    )

-- ## Below an own line

-- a line that is no item's own has none below
below_none : (p : Pieces) (front rest : List ℕ) (a : List (List ℕ)) → (IsPrefixOf p.regular rest → ⊥) → (IsPrefixOf p.last_regular rest → ⊥) → AddsTexts (EndsBelow p front rest) a a
below_none p front rest a first second = texts_none (EndsBelow p front rest) a none where
  none : (x : List ℕ) → EndsBelow p front rest x → ⊥
  none x (false, starts, is) = first starts
  none x (true, starts, is) = second starts

-- if passing pieces are all alike, there is one text
pub below_same : (p : Pieces) (front rest : List ℕ) (a b : List (List ℕ)) (text : List ℕ) → p.child ≡ p.last_child → IsPrefixOf p.regular rest → b ≡ a ++ text ∷ [] → text ≡ front ++ p.child → AddsTexts (EndsBelow p front rest) a b
below_same p front rest a b text same starts is made = texts_one (EndsBelow p front rest) a b text is (false, starts, made) only where
  only : (x : List ℕ) → EndsBelow p front rest x → x ≡ text
  only x (false, so, ends) = ends ∙ sym made
  only x (true, so, ends) = ends ∙ (ap (λ z. front ++ z) (sym same) ∙ sym made)

-- an own line of an item that is no last child
below_regular : (p : Pieces) (front rest : List ℕ) (a b : List (List ℕ)) (text : List ℕ) → IsPrefixOf p.regular rest → (IsPrefixOf p.last_regular rest → ⊥) → b ≡ a ++ text ∷ [] → text ≡ front ++ p.child
    → AddsTexts (EndsBelow p front rest) a b
below_regular p front rest a b text starts never is made = texts_one (EndsBelow p front rest) a b text is (false, starts, made) only where
  only : (x : List ℕ) → EndsBelow p front rest x → x ≡ text
  only x (false, so, ends) = ends ∙ sym made
  only x (true, so, ends) = absurd (never so)

-- that of a last child
below_last : (p : Pieces) (front rest : List ℕ) (a b : List (List ℕ)) (text : List ℕ) → (IsPrefixOf p.regular rest → ⊥) → IsPrefixOf p.last_regular rest → b ≡ a ++ text ∷ [] → text ≡ front ++ p.last_child
    → AddsTexts (EndsBelow p front rest) a b
below_last p front rest a b text never starts is made = texts_one (EndsBelow p front rest) a b text is (true, starts, made) only where
  only : (x : List ℕ) → EndsBelow p front rest x → x ≡ text
  only x (false, so, ends) = absurd (never so)
  only x (true, so, ends) = ends ∙ sym made

-- that of an item that may be either
below_either : (p : Pieces) (front rest : List ℕ) (a b c : List (List ℕ)) (x y : List ℕ) → p.child ≢ p.last_child → IsPrefixOf p.regular rest → IsPrefixOf p.last_regular rest
    → b ≡ a ++ x ∷ [] → x ≡ front ++ p.child → c ≡ b ++ y ∷ [] → y ≡ front ++ p.last_child → AddsTexts (EndsBelow p front rest) a c
below_either p front rest a b c x y apart starts too first child second last =
    texts_two (EndsBelow p front rest) a b c x y first second (λ e. apart (append_cancel_left front p.child p.last_child (sym child ∙ (e ∙ last)))) (false, starts, child) (true, too, last) only
  where
    only : (z : List ℕ) → EndsBelow p front rest z → (z ≡ x) ⊎ (z ≡ y)
    only z (false, so, ends) = inl (ends ∙ sym child)
    only z (true, so, ends) = inr (ends ∙ sym last)

-- what is added as the two are tried in turn
pub below_tried : (p : Pieces) (front rest : List ℕ) (a b c : List (List ℕ)) → (IsPrefixOf p.regular rest × (p.child ≢ p.last_child) × (b ≡ a ++ (front ++ p.child) ∷ [])) ⊎ ((IsPrefixOf p.regular rest → ⊥) × (b ≡ a))
    → (IsPrefixOf p.last_regular rest × (c ≡ b ++ (front ++ p.last_child) ∷ [])) ⊎ ((IsPrefixOf p.last_regular rest → ⊥) × (c ≡ b)) → AddsTexts (EndsBelow p front rest) a c
below_tried p front rest a b c (inl (starts, apart, is)) (inl (too, also)) = below_either p front rest a b c _ _ apart starts too is refl also refl
below_tried p front rest a b c (inl (starts, apart, is)) (inr (never, same)) = below_regular p front rest a c _ starts never (same ∙ is) refl
below_tried p front rest a b c (inr (none, same)) (inl (starts, is)) = below_last p front rest a c _ none starts (is ∙ ap (λ z. z ++ (front ++ p.last_child) ∷ []) same) refl
below_tried p front rest a b c (inr (none, same)) (inr (never, also)) = subst (AddsTexts (EndsBelow p front rest) a) (sym (also ∙ same)) (below_none p front rest a none never)

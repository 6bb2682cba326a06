-- Lists of places, and the trees that they are.
use Rattle.std.specs.Prelude.{slice_set, ◌^◌, min}
use Rattle.std.proofs.Common.{◌≡◌, ℕ, zero, suc, ◌+◌, ◌-◌, ◌<◌, ◌≤◌, inl, inr, Bool, true, false, List, [], ◌∷◌, ◌++◌, length, length-append, drop, ap, refl, sym, ◌∙◌, append_assoc, arith}
use Rattle.std.proofs.lemmas.Bool.{cases_lt}
use Rattle.std.proofs.lemmas.List.{append-nil, length-drop, drop_all, drop_at, drop-drop}
use Rattle.ptree.specs.declared.graph.places.Place.{Place}
use Rattle.ptree.specs.Growing.{place_of, place_at, leaf_size, ArePlaces, AppendsPlaces, IsNextPlace}
use Rattle.ptree.specs.Occurrence.{OccurrenceRow, none, item, OccurrenceTree, occurrence, occurrence_kids, row, row_size, occurrence_count, its_place, row_places, tree_places, is_repeated_size, size_below, trees_by, trees_in, first_tree}
use Rattle.ptree.proofs.Graphs.Occurrences.{occurrences_of_row}

-- more steps than places change nothing
steps_alike : (n m left : ℕ) (ps : List Place) → length ps ≤ n → length ps ≤ m → trees_by n left ps ≡ trees_by m left ps
steps_alike zero zero left ps h k = refl
steps_alike zero (suc m) zero ps h k = refl
steps_alike zero (suc m) (suc left) [] h k = refl
steps_alike zero (suc m) (suc left) (p ∷ ps) h k = absurd (omega arith)
steps_alike (suc n) zero zero ps h k = refl
steps_alike (suc n) zero (suc left) [] h k = refl
steps_alike (suc n) zero (suc left) (p ∷ ps) h k = absurd (omega arith)
steps_alike (suc n) (suc m) zero ps h k = refl
steps_alike (suc n) (suc m) (suc left) [] h k = refl
steps_alike (suc n) (suc m) (suc left) (p ∷ ps) h k =
    let b = size_below p.size in
    let shorter = length-drop b ps in
    ap (λ ts. occurrence p.node.0 (is_repeated_size p.size) (row ts) ∷ trees_by n (left - b) (drop b ps)) (steps_alike n m b ps (omega arith) (omega arith))
    ∙ ap (λ ts. occurrence p.node.0 (is_repeated_size p.size) (row (trees_by m b ps)) ∷ ts) (steps_alike n m (left - b) (drop b ps) (omega (arith, shorter)) (omega (arith, shorter)))

-- no places are no trees
pub trees_none : (ps : List Place) → trees_in 0 ps ≡ []
trees_none [] = refl
trees_none (p ∷ ps) = refl

-- the first tree, and those after it
pub trees_first : (left : ℕ) (p : Place) (ps : List Place) → trees_in (suc left) (p ∷ ps) ≡ first_tree (p ∷ ps) ∷ trees_in (left - size_below p.size) (drop (size_below p.size) ps)
trees_first left p ps =
    let b = size_below p.size in
    let shorter = length-drop b ps in
    ap (λ ts. first_tree (p ∷ ps) ∷ ts) (steps_alike (length ps) (length (drop b ps)) (left - b) (drop b ps) (omega (arith, shorter)) (omega arith))

-- ## Places of trees

-- a row has a place for each occurrence
pub length-row_places : (c : OccurrenceRow) → length (row_places c) ≡ row_size c
length-row_places none = refl
length-row_places (item v r c rest) = omega (arith, length-append (row_places c) (row_places rest), length-row_places c, length-row_places rest)

-- those of a row of two lists
row_places-append : (ts us : List OccurrenceTree) → row_places (row (ts ++ us)) ≡ row_places (row ts) ++ row_places (row us)
row_places-append [] us = refl
row_places-append (t ∷ ts) us =
    ap (λ l. its_place t.node t.repeated t.children ∷ (row_places t.children ++ l)) (row_places-append ts us)
    ∙ ap (λ l. its_place t.node t.repeated t.children ∷ l) (sym (append_assoc (row_places t.children) (row_places (row ts)) (row_places (row us))))

-- none
pub places_nil : ArePlaces [] []
places_nil = record { trees = λ left rest. (let e : 0 + left ≡ left = omega arith in ap (λ n. trees_in n rest) e); places = refl }

-- the trees of two lists, one after the other
trees_append : (ps qs : List Place) (ts us : List OccurrenceTree) → ArePlaces ps ts → ArePlaces qs us → (left : ℕ) (rest : List Place) → trees_in (length (ps ++ qs) + left) ((ps ++ qs) ++ rest) ≡ (ts ++ us) ++ trees_in left rest
trees_append ps qs ts us h k left rest =
    let count : length (ps ++ qs) + left ≡ length ps + (length qs + left) = omega (arith, length-append ps qs) in
    ap (λ n. trees_in n ((ps ++ qs) ++ rest)) count ∙ (ap (trees_in (length ps + (length qs + left))) (append_assoc ps qs rest)
    ∙ (h.trees (length qs + left) (qs ++ rest) ∙ (ap (λ z. ts ++ z) (k.trees left rest) ∙ sym (append_assoc ts us (trees_in left rest)))))

-- those of two lists, one after the other
pub places_append : (ps qs : List Place) (ts us : List OccurrenceTree) → ArePlaces ps ts → ArePlaces qs us → ArePlaces (ps ++ qs) (ts ++ us)
places_append ps qs ts us h k = record {
  trees = trees_append ps qs ts us h k;
  places = ap (λ l. l ++ qs) h.places ∙ (ap (λ l. row_places (row ts) ++ l) k.places ∙ sym (row_places-append ts us));
}

-- the tree of a place and those below it
tree_over : (v : ℕ) (ps : List Place) (ts : List OccurrenceTree) → ArePlaces ps ts → (left : ℕ) (rest : List Place)
    → trees_in (suc (length ps) + left) (place_of v (suc (length ps)) ∷ (ps ++ rest)) ≡ occurrence v false (row ts) ∷ trees_in left rest
tree_over v ps ts h left rest =
    let p = place_of v (suc (length ps)) in
    let count : suc (length ps) + left ≡ suc (length ps + left) = omega arith in
    let behind : (length ps + left) - length ps ≡ left = omega arith in
    let none : length ps + 0 ≡ length ps = omega arith in
    let below : trees_in (length ps) (ps ++ rest) ≡ ts = ap (λ n. trees_in n (ps ++ rest)) (sym none) ∙ (h.trees 0 rest ∙ (ap (λ z. ts ++ z) (trees_none rest) ∙ append-nil ts)) in
    ap (λ n. trees_in n (p ∷ (ps ++ rest))) count ∙ (trees_first (length ps + left) p (ps ++ rest)
    ∙ (ap (λ z. occurrence v false (row z) ∷ trees_in ((length ps + left) - length ps) (drop (length ps) (ps ++ rest))) below
    ∙ (ap (λ n. occurrence v false (row ts) ∷ trees_in n (drop (length ps) (ps ++ rest))) behind
    ∙ ap (λ z. occurrence v false (row ts) ∷ trees_in left z) (drop_at ps rest (length ps) refl))))

-- a place and those below it
pub places_over : (v : ℕ) (ps : List Place) (ts : List OccurrenceTree) → ArePlaces ps ts → ArePlaces (place_of v (suc (length ps)) ∷ ps) (occurrence v false (row ts) ∷ [])
places_over v ps ts h = record {
  trees = tree_over v ps ts h;
  places = ap (λ l. place_of v (suc (length l)) ∷ l) h.places
      ∙ (ap (λ n. place_of v (suc n) ∷ row_places (row ts)) (length-row_places (row ts)) ∙ ap (λ l. place_of v (suc (row_size (row ts))) ∷ l) (sym (append-nil (row_places (row ts)))));
}

-- a repeated place is a tree
tree_repeated : (v left : ℕ) (rest : List Place) → trees_in (1 + left) (place_of v 0 ∷ rest) ≡ occurrence v true none ∷ trees_in left rest
tree_repeated v left rest =
    let count : 1 + left ≡ suc left = omega arith in
    let behind : left - 0 ≡ left = omega arith in
    ap (λ n. trees_in n (place_of v 0 ∷ rest)) count ∙ (trees_first left (place_of v 0) rest
    ∙ (ap (λ z. occurrence v true (row z) ∷ trees_in (left - 0) rest) (trees_none rest) ∙ ap (λ n. occurrence v true none ∷ trees_in n rest) behind))

-- a place with nothing below it
pub places_leaf : (v : ℕ) (m : Bool) → ArePlaces (place_of v (leaf_size m) ∷ []) (occurrence v m none ∷ [])
places_leaf v false = places_over v [] [] places_nil
places_leaf v true = record { trees = tree_repeated v; places = refl }

-- ## Appending

-- nothing
pub appends_none : (xs ys : List Place) → ys ≡ xs → AppendsPlaces xs ys []
appends_none xs ys e = ([], e ∙ sym (append-nil xs), places_nil)

-- places of some trees, and of further ones
pub appends_more : (xs ys zs : List Place) (ts us : List OccurrenceTree) → AppendsPlaces xs ys ts → AppendsPlaces ys zs us → AppendsPlaces xs zs (ts ++ us)
appends_more xs ys zs ts us (ps, e, h) (qs, f, k) =
    (ps ++ qs, f ∙ (ap (λ z. z ++ qs) e ∙ append_assoc xs ps qs), places_append ps qs ts us h k)

-- a place with nothing below it
pub appends_leaf : (xs ys : List Place) (v : ℕ) (m : Bool) → ys ≡ xs ++ place_of v (leaf_size m) ∷ [] → AppendsPlaces xs ys (occurrence v m none ∷ [])
appends_leaf xs ys v m e = (place_of v (leaf_size m) ∷ [], e, places_leaf v m)

-- the element at the seam
set_seam : {X : Type 0} (xs ys : List X) (x y : X) → slice_set (xs ++ x ∷ ys) (length xs) y ≡ xs ++ y ∷ ys
set_seam [] ys x y = refl
set_seam (z ∷ xs) ys x y = ap (λ l. z ∷ l) (set_seam xs ys x y)

-- a place got its size after those below it were appended
pub appends_over : (xs ys zs : List Place) (v index size : ℕ) (ts : List OccurrenceTree) → AppendsPlaces (xs ++ place_of v 1 ∷ []) ys ts → index ≡ length xs → size ≡ length ys - index → zs ≡ slice_set ys index (place_of v size)
    → AppendsPlaces xs zs (occurrence v false (row ts) ∷ [])
appends_over xs ys zs v index size ts (ps, e, h) i s z =
    let split : ys ≡ xs ++ place_of v 1 ∷ ps = e ∙ append_assoc xs (place_of v 1 ∷ []) ps in
    let long : length ys ≡ length xs + suc (length ps) = ap length split ∙ length-append xs (place_of v 1 ∷ ps) in
    let count : size ≡ suc (length ps) = omega arith in
    let done : zs ≡ xs ++ place_of v (suc (length ps)) ∷ ps =
    z ∙ (ap (λ l. slice_set l index (place_of v size)) split ∙ (ap (λ n. slice_set (xs ++ place_of v 1 ∷ ps) n (place_of v size)) i
    ∙ (set_seam xs ps (place_of v 1) (place_of v size) ∙ ap (λ n. xs ++ place_of v n ∷ ps) count))) in
    (place_of v (suc (length ps)) ∷ ps, done, places_over v ps ts h)

-- the first tree is the one whose places are appended to nothing
pub tree_of_places : (ps : List Place) (t : OccurrenceTree) → AppendsPlaces [] ps (t ∷ []) → first_tree ps ≡ t
tree_of_places ps t (qs, e, h) = ap first_tree e ∙ one qs h where
  one : (qs : List Place) → ArePlaces qs (t ∷ []) → first_tree qs ≡ t
  one [] h = let never : [] ≡ t ∷ [] = h.trees 0 [] in absurd (cc)
  one (p ∷ qs) h =
      let count : suc (length qs) + 0 ≡ suc (length qs) = omega arith in
      let all : trees_in (suc (length qs)) (p ∷ qs) ≡ t ∷ [] = ap (λ l. trees_in (suc (length qs)) l) (sym (append-nil (p ∷ qs))) ∙ (ap (λ n. trees_in n ((p ∷ qs) ++ [])) (sym count) ∙ h.trees 0 []) in
      let front : first_tree (p ∷ qs) ∷ trees_in (length qs - size_below p.size) (drop (size_below p.size) qs) ≡ t ∷ [] = sym (trees_first (length qs) p qs) ∙ all in
      cc

-- these places are those of the first tree
pub places_of_tree : {old new ps : List Place} {t : OccurrenceTree} → old ≡ [] → new ≡ old ++ ps → ArePlaces ps (t ∷ []) → new ≡ tree_places (first_tree new)
places_of_tree {new = new} {ps = ps} {t = t} empty added h =
    let all : new ≡ ps = added ∙ ap (λ l. l ++ ps) empty in
    all ∙ (h.places ∙ (append-nil (tree_places t) ∙ ap tree_places (sym (tree_of_places new t (ps, all, h)))))

-- so there are as many as it has occurrences
pub number_of_places : {old new ps : List Place} {t : OccurrenceTree} → old ≡ [] → new ≡ old ++ ps → ArePlaces ps (t ∷ []) → length new ≡ occurrence_count (first_tree new)
number_of_places {new = new} empty added h = ap length (places_of_tree empty added h) ∙ ap suc (length-row_places (first_tree new).children)

-- ## Items

-- the tree at a place, by its parts
pub tree_at_place : (ps : List Place) (i : ℕ) → first_tree (drop i ps) ≡ occurrence (place_at ps i).node.0 (is_repeated_size (place_at ps i).size) (row (trees_in (size_below (place_at ps i).size) (drop (suc i) ps)))
tree_at_place [] zero = refl
tree_at_place [] (suc i) = refl
tree_at_place (p ∷ ps) zero = refl
tree_at_place (p ∷ ps) (suc i) = tree_at_place ps i

-- after a place and what is below it, by an index that stops at the greatest number
pub next_index : (ps : List Place) (i b next after : ℕ) → length ps < 2 ^ 64 → next ≡ min (i + 1) (2 ^ 64 - 1) → after ≡ min (next + b) (2 ^ 64 - 1) → drop after ps ≡ drop b (drop (suc i) ps)
next_index ps i b next after h e f = elim (cases_lt (suc i + b) (2 ^ 64)) [
  | inl x ↦ (let same : after ≡ suc i + b = omega arith in ap (λ n. drop n ps) same ∙ sym (drop-drop b (suc i) ps))
  | inr x ↦ drop_all after ps (omega arith) ∙ (sym (drop_all (suc i + b) ps (omega arith)) ∙ sym (drop-drop b (suc i) ps))
]

-- after a place, by an index that stops at the greatest number
pub first_index : (ps : List Place) (i next : ℕ) → length ps < 2 ^ 64 → next ≡ min (i + 1) (2 ^ 64 - 1) → drop next ps ≡ drop (suc i) ps
first_index ps i next h e = elim (cases_lt (suc i) (2 ^ 64)) [
  | inl x ↦ (let same : next ≡ suc i = omega arith in ap (λ n. drop n ps) same)
  | inr x ↦ drop_all next ps (omega arith) ∙ sym (drop_all (suc i) ps (omega arith))
]

-- the tree at the next place, and those after it
pub next_trees : (ps : List Place) (i left b left' next after : ℕ) → length ps < 2 ^ 64 → IsNextPlace ps i left b → left' ≡ (left - 1) - b → next ≡ min (i + 1) (2 ^ 64 - 1) → after ≡ min (next + b) (2 ^ 64 - 1)
    → trees_in left (drop i ps) ≡ first_tree (drop i ps) ∷ trees_in left' (drop after ps)
next_trees ps i left b left' next after h (p, some, below, split) e f k =
    let m = left - 1 in
    let rest = drop (suc i) ps in
    let one : left ≡ suc m = omega arith in
    let fewer : m - size_below p.size ≡ left' = omega arith in
    let behind : drop (size_below p.size) rest ≡ drop after ps = ap (λ n. drop n rest) (sym below) ∙ sym (next_index ps i b next after h f k) in
    ap (λ n. trees_in n (drop i ps)) one ∙ (ap (trees_in (suc m)) split ∙ (trees_first m p rest
    ∙ (ap (λ l. first_tree l ∷ trees_in (m - size_below p.size) (drop (size_below p.size) rest)) (sym split)
    ∙ (ap (λ n. first_tree (drop i ps) ∷ trees_in n (drop (size_below p.size) rest)) fewer ∙ ap (λ l. first_tree (drop i ps) ∷ trees_in left' l) behind))))

-- what is below a place
pub kids_at_place : (ps : List Place) (i : ℕ) → occurrence_kids (first_tree (drop i ps)) ≡ trees_in (size_below (place_at ps i).size) (drop (suc i) ps)
kids_at_place ps i = ap occurrence_kids (tree_at_place ps i) ∙ occurrences_of_row (trees_in (size_below (place_at ps i).size) (drop (suc i) ps))

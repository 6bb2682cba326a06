-- Pairs of words on lines.
use Rattle.trees.proofs.Common.{◌≡◌, ◌≢◌, ◌∙◌, ℕ, ◌+◌, ◌<◌, true, false, List, [], ◌∷◌, ◌++◌, length, get_or, map, zero, suc, codes, refl, sym, ap, subst, filter, All, Bor, true≢false, arith, lines, map_twice, All-nil, All-cons, All-head, All-tail, All-append, filter-append, bytes_eq-Decides}
use Rattle.std.specs.List.{enumerate_from}
use Rattle.std.proofs.Math.ListN.{get_or-map}
use Rattle.std.proofs.lemmas.List.{append-nil, length-map, map-append}
use Rattle.std.proofs.lemmas.List.FromFn.{get_or-enumerate_from, length-enumerate_from}
use Rattle.trees.specs.Depending.{words_of, has_words, pair_words, ArePairs}
use Rattle.trees.specs.DependingParts.{texts_of, are_no_pair}

-- ## Lines

-- a pair is no comment
abbrev pub IsNoComment : List ℕ × List ℕ → Type 0
IsNoComment p = p.0 ≢ codes "#"

-- no such words are a pair
not_two : (ws : List (List ℕ)) (p : List ℕ × List ℕ) → are_no_pair ws ≡ true → IsNoComment p → ws ≡ pair_words p → ⊥
not_two ws p wrong own e = own ((bytes_eq-Decides p.0 (codes "#")).0 (sym (ap are_no_pair e) ∙ wrong))

-- so lines with such words are no pairs
none_among : (ls : List (List (List ℕ))) (pairs : List (List ℕ × List ℕ)) (k : ℕ) (d : List (List ℕ)) → k < length ls → are_no_pair (get_or ls k d) ≡ true → All IsNoComment pairs → filter has_words ls ≡ map pair_words pairs → ⊥
none_among [] pairs k d low wrong own e = absurd (omega arith)
none_among ((w ∷ ws) ∷ ls) [] k d low wrong own e = cc
none_among ((w ∷ ws) ∷ ls) (p ∷ pairs) zero d low wrong own e = not_two (w ∷ ws) p wrong (All-head IsNoComment p pairs own) (cc)
none_among ((w ∷ ws) ∷ ls) (p ∷ pairs) (suc k) d low wrong own e = none_among ls pairs k d (omega arith) wrong (All-tail IsNoComment p pairs own) (cc)
none_among ([] ∷ ls) pairs zero d low wrong own e = true≢false (sym wrong)
none_among ([] ∷ ls) pairs (suc k) d low wrong own e = none_among ls pairs k d (omega arith) wrong own e

-- what stands in a numbered list
in_numbered : {X : Type 0} (xs : List X) (n k : ℕ) (x : ℕ × X) → k < length (enumerate_from n xs) → x ≡ get_or (enumerate_from n xs) k x → (k < length xs) × (x.1 ≡ get_or xs k x.1)
in_numbered xs n k x low is = (let within : k < length xs = omega (arith, low, length-enumerate_from n xs) in (within, ap (λ p. p.1) (is ∙ get_or-enumerate_from n xs k x within)))

pub numbered : {X : Type 0} (xs : List X) (n : ℕ) → map (λ p. p.1) (enumerate_from n xs) ≡ xs
numbered [] n = refl
numbered (x ∷ xs) n = ap (λ ys. x ∷ ys) (numbered xs (n + 1))

-- a line with other words
pub wrong_line : (text : List ℕ) (pairs : List (List ℕ × List ℕ)) (k : ℕ) (x : ℕ × List ℕ) → k < length (enumerate_from 0 (lines text)) → x ≡ get_or (enumerate_from 0 (lines text)) k x → are_no_pair (words_of x.1) ≡ true → ArePairs text pairs → ⊥
wrong_line text pairs k x low is wrong are =
    let ls = lines text in
    let line = in_numbered ls 0 k x low is in
    none_among (map words_of ls) pairs k (words_of x.1) (rw length-map line.0) (ap are_no_pair (get_or-map words_of ls k x.1 ∙ ap words_of (sym line.1)) ∙ wrong) are.own are.words

-- the words of the lines so far
abbrev pub words_so_far : List (ℕ × Bor (List ℕ)) → List (List (List ℕ))
words_so_far passed = filter has_words (map (λ (p : ℕ × Bor (List ℕ)). words_of p.1.now) passed)

pub record AreFound (found : List (Bor (List ℕ) × Bor (List ℕ))) (passed : List (ℕ × Bor (List ℕ))) : Type 0 where
  pub words : words_so_far passed ≡ map pair_words (map texts_of found)
  pub own : All IsNoComment (map texts_of found)

-- and those of one more
module _ (found : List (Bor (List ℕ) × Bor (List ℕ))) (passed : List (ℕ × Bor (List ℕ))) (line : ℕ × Bor (List ℕ)) (so : AreFound found passed) where
  words_more : (ws : List (List ℕ)) → words_of line.1.now ≡ ws → words_so_far (passed ++ line ∷ []) ≡ map pair_words (map texts_of found) ++ filter has_words (ws ∷ [])
  words_more ws is =
      let words = λ (p : ℕ × Bor (List ℕ)). words_of p.1.now in
      ap (filter has_words) (map-append words passed (line ∷ []))
      ∙ (filter-append has_words (map words passed) (words line ∷ []) ∙ (ap (λ wss. wss ++ filter has_words (words line ∷ [])) so.words ∙ ap (λ (w : List (List ℕ)). map pair_words (map texts_of found) ++ filter has_words (w ∷ [])) is))

  -- a blank one
  pub found_same : words_of line.1.now ≡ [] → AreFound found (passed ++ line ∷ [])
  found_same is = record { words = words_more [] is ∙ append-nil (map pair_words (map texts_of found)); own = so.own }

  -- one with a pair
  pub found_more : (p : Bor (List ℕ) × Bor (List ℕ)) (all : List (Bor (List ℕ) × Bor (List ℕ))) → all ≡ found ++ p ∷ [] → words_of line.1.now ≡ pair_words (texts_of p) → are_no_pair (words_of line.1.now) ≡ false → AreFound all (passed ++ line ∷ [])
  found_more p all pushed is right =
      let texts : map texts_of all ≡ map texts_of found ++ texts_of p ∷ [] = ap (map texts_of) pushed ∙ map-append texts_of found (p ∷ []) in
      let own : IsNoComment (texts_of p) = λ same. true≢false (sym (ap are_no_pair is ∙ (bytes_eq-Decides p.0.now (codes "#")).1 same) ∙ right) in
      record {
        words = words_more (pair_words (texts_of p)) is ∙ (sym (map-append pair_words (map texts_of found) (texts_of p ∷ [])) ∙ ap (map pair_words) (sym texts));
        own = subst (All IsNoComment) (sym texts) (All-append IsNoComment (map texts_of found) (texts_of p ∷ []) so.own (All-cons IsNoComment (texts_of p) [] own (All-nil IsNoComment)));
      }

-- all lines
pub passed_all : (text : List ℕ) (found : List (Bor (List ℕ) × Bor (List ℕ))) (passed : List (ℕ × Bor (List ℕ))) → map (λ (p : ℕ × Bor (List ℕ)). (p.0, p.1.now)) passed ≡ enumerate_from 0 (lines text) → AreFound found passed → ArePairs text (map texts_of found)
passed_all text found passed all so =
    let own : map (λ (p : ℕ × Bor (List ℕ)). p.1.now) passed ≡ lines text = map_twice (λ (p : ℕ × Bor (List ℕ)). (p.0, p.1.now)) (λ (p : ℕ × List ℕ). p.1) passed ∙ (ap (map (λ (p : ℕ × List ℕ). p.1)) all ∙ numbered (lines text) 0) in
    record {
      words = ap (filter has_words) (sym (ap (map words_of) own) ∙ sym (map_twice (λ (p : ℕ × Bor (List ℕ)). p.1.now) words_of passed)) ∙ so.words;
      own = so.own;
    }

-- the pairs of a text are its only ones
pub pairs_unique : (xs ys : List (List ℕ × List ℕ)) → map pair_words xs ≡ map pair_words ys → xs ≡ ys
pairs_unique [] [] e = refl
pairs_unique (x ∷ xs) (y ∷ ys) e =
    let first : x.0 ≡ y.0 = cc in
    let second : x.1 ≡ y.1 = cc in
    let rest : map pair_words xs ≡ map pair_words ys = cc in
    ap (λ (w : List ℕ). (w, x.1) ∷ xs) first ∙ (ap (λ (w : List ℕ). (y.0, w) ∷ xs) second ∙ ap (λ ps. y ∷ ps) (pairs_unique xs ys rest))
pairs_unique _ _ e = cc

-- The names of the paths that are given.
use Rattle.trees.proofs.Common.{◌≡◌, ◌≢◌, ◌∙◌, ℕ, ◌+◌, ◌<◌, Bool, true, false, cond, eqb, List, [], ◌∷◌, ◌++◌, length, get_or, take, map, refl, sym, ap, Bor, filter, eqb-true, true≢false, arith, names, names_of}
use Rattle.std.proofs.lemmas.List.{map_more, map_push, append-nil}
use Rattle.ptree_trees.proofs.PathTrees.{names_some}
use Rattle.trees.specs.Listing.{path_names, has_names, given_paths}
use Rattle.trees.specs.ListingParts.{own_names}

-- the names of lines and further ones
given_append : (xs ys : List (List ℕ)) → given_paths (xs ++ ys) ≡ given_paths xs ++ given_paths ys
given_append [] ys = refl
given_append (x ∷ xs) ys = at (has_names (path_names x)) (given_append xs ys) where
  at : (b : Bool) → given_paths (xs ++ ys) ≡ given_paths xs ++ given_paths ys
      → cond b (path_names x ∷ given_paths (xs ++ ys)) (given_paths (xs ++ ys)) ≡ cond b (path_names x ∷ given_paths xs) (given_paths xs) ++ given_paths ys
  at true e = ap (λ (z : List (List (List ℕ))). path_names x ∷ z) e
  at false e = e

-- those of one line, if it has some
given_one : (ns : List (List ℕ)) → ns ≢ [] → filter has_names (ns ∷ []) ≡ ns ∷ []
given_one [] h = absurd (h refl)
given_one (n ∷ ns) h = refl

given_some : (line path : List ℕ) → eqb (length path) 0 ≡ false → own_names path ≡ path_names line → given_paths (line ∷ []) ≡ names 47 path ∷ []
given_some line [] h e = absurd (true≢false h)
given_some line (b ∷ path) h e = ap (λ (ns : List (List ℕ)). filter has_names (ns ∷ [])) (sym e) ∙ given_one (names 47 (b ∷ path)) (names_some 47 (b ∷ path))

given_none : (line path : List ℕ) → eqb (length path) 0 ≡ true → own_names path ≡ path_names line → given_paths (line ∷ []) ≡ []
given_none line [] h e = ap (λ (ns : List (List ℕ)). filter has_names (ns ∷ [])) (sym e)
given_none line (b ∷ path) h e = let none = eqb-true (length (b ∷ path)) 0 h in absurd (omega (arith, none))

-- those of a line more
given_next : (lines : List (Bor (List ℕ))) (i : ℕ) (d : Bor (List ℕ)) (more : List (List (List ℕ))) → i < length lines → given_paths ((get_or lines i d).now ∷ []) ≡ more
    → given_paths (map (λ l. l.now) (take (i + 1) lines)) ≡ given_paths (map (λ l. l.now) (take i lines)) ++ more
given_next lines i d more low e =
    ap given_paths (map_more (λ (l : Bor (List ℕ)). l.now) lines i d low)
    ∙ (given_append (map (λ l. l.now) (take i lines)) ((get_or lines i d).now ∷ []) ∙ ap (λ (z : List (List (List ℕ))). given_paths (map (λ l. l.now) (take i lines)) ++ z) e)

pub given_more : (lines given : List (Bor (List ℕ))) (i : ℕ) (d path : Bor (List ℕ)) → i < length lines → eqb (length path.now) 0 ≡ false → own_names path.now ≡ path_names (get_or lines i d).now
    → names_of 47 given ≡ given_paths (map (λ l. l.now) (take i lines)) → names_of 47 (given ++ path ∷ []) ≡ given_paths (map (λ l. l.now) (take (i + 1) lines))
given_more lines given i d path low some e before =
    map_push (λ (p : Bor (List ℕ)). names 47 p.now) given path
    ∙ (ap (λ (z : List (List (List ℕ))). z ++ names 47 path.now ∷ []) before ∙ sym (given_next lines i d (names 47 path.now ∷ []) low (given_some (get_or lines i d).now path.now some e)))

pub given_same : (lines given : List (Bor (List ℕ))) (i : ℕ) (d path : Bor (List ℕ)) → i < length lines → eqb (length path.now) 0 ≡ true → own_names path.now ≡ path_names (get_or lines i d).now
    → names_of 47 given ≡ given_paths (map (λ l. l.now) (take i lines)) → names_of 47 given ≡ given_paths (map (λ l. l.now) (take (i + 1) lines))
given_same lines given i d path low none e before =
    before ∙ (sym (append-nil (given_paths (map (λ l. l.now) (take i lines)))) ∙ sym (given_next lines i d [] low (given_none (get_or lines i d).now path.now none e)))

-- Texts with which paths begin, looked for.
use Rattle.std.proofs.Common.{◌≡◌, ◌≢◌, ℕ, zero, suc, ◌+◌, ◌<◌, ◌≤◌, Bool, true, false, cond, eqb, List, [], ◌∷◌, ◌++◌, length, get_or, take, drop, refl, sym, ap, ◌∙◌, subst, arith}
use Rattle.std.proofs.Math.Seq.{drop-append_seam, take-append_seam}
use Rattle.std.proofs.lemmas.List.{append_assoc, length-append, length-take-le, take-append-drop, take-take, take_more}
use Rattle.std.proofs.lemmas.List.Elements.{All-nil, All-cons, All-head, All-tail}
use Rattle.std.proofs.lemmas.Bool.{eq-eqb, false≢true}
use Rattle.std.proofs.lemmas.Str.{IsCharBoundary-from_take}
use Rattle.std.specs.Borrow.{Bor}
use Rattle.std.specs.List.{AllByRecursion}
use Rattle.std.specs.Prelude.{All}
use Rattle.std.specs.Str.{IsUtf8, IsCharBoundary}
use Rattle.ptree_trees.specs.Paths.{with_first, names}
use Rattle.ptree_trees.specs.SharedStart.{AllStart}
use Rattle.ptree_trees.proofs.PathTrees.{names_some}

-- a path begins with a text
abbrev Begins : List ℕ → Bor (List ℕ) → Type 0
Begins start p = p.now ≡ start ++ drop (length start) p.now

-- a text begins with what another has up to a place, if they are the same to there or beyond
pub begins_same : (j k : ℕ) (a b : List ℕ) → j ≤ k → k ≤ length a → take k a ≡ take k b → b ≡ take j a ++ drop (length (take j a)) b
begins_same j k a b l m e =
    let same : take j a ≡ take j b = sym (take-take j k a l) ∙ (ap (take j) e ∙ take-take j k b l) in
    sym (ap (λ n. take j a ++ drop n b) (length-take-le j a (omega (arith, l, m))) ∙ (ap (λ z. z ++ drop j b) same ∙ take-append-drop j b))

-- the first of names, or this
abbrev first_or : List ℕ → List (List ℕ) → List ℕ
first_or n [] = n
first_or n (m ∷ ms) = m

-- there is no separator in a first name
first_clear : (s : ℕ) (text n : List ℕ) (ns : List (List ℕ)) → names s text ≡ n ∷ ns → All (λ b. b ≢ s) n
first_clear s [] n ns e = subst (All (λ b. b ≢ s)) (ap (first_or []) e) (All-nil (λ b. b ≢ s))
first_clear s (b ∷ t) n ns e = at (eqb b s) refl e (first_clear s t) where
  at : (c : Bool) → eqb b s ≡ c → cond c ([] ∷ names s t) (with_first b (names s t)) ≡ n ∷ ns → ((m : List ℕ) (ms : List (List ℕ)) → names s t ≡ m ∷ ms → All (λ b. b ≢ s) m) → All (λ b. b ≢ s) n
  at true is e more = subst (All (λ b. b ≢ s)) (ap (first_or []) e) (All-nil (λ b. b ≢ s))
  at false is e more = first (names s t) refl e where
    first : (ms : List (List ℕ)) → names s t ≡ ms → with_first b ms ≡ n ∷ ns → All (λ b. b ≢ s) n
    first [] known e = absurd (names_some s t known)
    first (m ∷ ms) known e = subst (All (λ b. b ≢ s)) (ap (first_or []) e) (All-cons (λ b. b ≢ s) b m (λ same. false≢true (sym is ∙ eq-eqb b s same)) (more m ms known))

-- all paths begin with no text
pub start_none : (s : ℕ) (start : List ℕ) (paths : List (Bor (List ℕ))) → length start ≡ 0 → AllStart s start paths
start_none s [] paths e = record { within = All-nil (λ b. b ≢ s); each = each paths } where
  each : (ps : List (Bor (List ℕ))) → AllByRecursion (Begins []) ps
  each [] = tt
  each (p ∷ ps) = (refl, each ps)
start_none s (b ∷ start) paths e = absurd (omega (arith, e))

-- no paths begin with a first name
pub start_first : (s : ℕ) (text n : List ℕ) (ns : List (List ℕ)) → names s text ≡ n ∷ ns → AllStart s n []
start_first s text n ns e = record { within = first_clear s text n ns e; each = tt }

-- what has no separator has none at its beginning
clear_front : (s : ℕ) (xs ys : List ℕ) → All (λ b. b ≢ s) (xs ++ ys) → All (λ b. b ≢ s) xs
clear_front s [] ys h = All-nil (λ b. b ≢ s)
clear_front s (x ∷ xs) ys h = All-cons (λ b. b ≢ s) x xs (All-head (λ b. b ≢ s) x (xs ++ ys) h) (clear_front s xs ys (All-tail (λ b. b ≢ s) x (xs ++ ys) h))

-- what begins with a text begins with its beginning
begins_shorter : (old new : List ℕ) (p : Bor (List ℕ)) → old ≡ new ++ drop (length new) old → Begins old p → Begins new p
begins_shorter old new p shorter h =
    let rest = drop (length new) old ++ drop (length old) p.now in
    let whole : p.now ≡ new ++ rest = h ∙ (ap (λ z. z ++ drop (length old) p.now) shorter ∙ append_assoc new (drop (length new) old) (drop (length old) p.now)) in
    whole ∙ ap (λ z. new ++ z) (sym (ap (drop (length new)) whole ∙ drop-append_seam new rest))

-- one path more begins with a shorter text
pub start_more : (s : ℕ) (old new : List ℕ) (xs : List (Bor (List ℕ))) (i : ℕ) (d : Bor (List ℕ)) → i < length xs → AllStart s old (take i xs) → old ≡ new ++ drop (length new) old
    → Begins new (get_or xs i d) → AllStart s new (take (i + 1) xs)
start_more s old new xs i d l h shorter begins = record {
  within = clear_front s new (drop (length new) old) (subst (All (λ b. b ≢ s)) shorter h.within);
  each = subst (AllByRecursion (Begins new)) (sym (take_more xs i d l)) (pushed (take i xs) h.each);
}
  where
    pushed : (ps : List (Bor (List ℕ))) → AllByRecursion (Begins old) ps → AllByRecursion (Begins new) (ps ++ get_or xs i d ∷ [])
    pushed [] a = (begins, tt)
    pushed (p ∷ ps) a = (begins_shorter old new p shorter a.0, pushed ps a.1)

-- a text may be cut behind its beginning
pub start_boundary : (s : ℕ) (start : List ℕ) (xs : List (Bor (List ℕ))) (i : ℕ) (d : Bor (List ℕ)) → i < length xs → AllStart s start xs → IsUtf8 start → IsUtf8 (get_or xs i d).now
    → IsCharBoundary (get_or xs i d).now (length start)
start_boundary s start xs i d l h text path =
    let p = get_or xs i d in
    let begins = begun xs h.each i l in
    let long : length start ≤ length p.now = omega (arith, simp length-append at (ap length begins)) in
    let front : take (length start) p.now ≡ start = ap (take (length start)) begins ∙ take-append_seam start (drop (length start) p.now) in
    IsCharBoundary-from_take p.now (length start) path long (subst IsUtf8 (sym front) text)
  where
    begun : (ps : List (Bor (List ℕ))) → AllByRecursion (Begins start) ps → (j : ℕ) → j < length ps → Begins start (get_or ps j d)
    begun [] a j m = absurd (omega (arith, m))
    begun (p ∷ ps) a zero m = a.0
    begun (p ∷ ps) a (suc j) m = begun ps a.1 j (omega (arith, m))

-- Paths cut behind their first names.
use Rattle.std.proofs.Common.{◌≡◌, ◌≢◌, ℕ, ◌+◌, ◌-◌, ◌<◌, ◌≤◌, Option, Some, None, List, [], ◌∷◌, ◌++◌, length, get_or, take, drop, refl, sym, ap, ◌∙◌, arith, append-nil, length-drop}
use Rattle.std.proofs.lemmas.Bool.{eq-eqb, ne_eqb}
use Rattle.std.proofs.lemmas.List.Elements.{All-head, All-tail}
use Rattle.std.proofs.lemmas.List.{take_all, take-append-drop, get_or-drop}
use Rattle.std.proofs.lemmas.Str.{IsUtf8-drop, IsCharBoundary-after_ascii, IsCharBoundary-end}
use Rattle.std.specs.Borrow.{Bor}
use Rattle.std.specs.Prelude.{All, option_map}
use Rattle.std.specs.Str.{IsUtf8, IsCharBoundary}
use Rattle.std.specs.Str.Pattern.{GetsRange}
use Rattle.ptree_trees.specs.Paths.{names}
use Rattle.ptree_trees.specs.CutName.{tail_names}

-- a path without a separator is one name
names_one : (s : ℕ) (text : List ℕ) → All (λ b. b ≢ s) text → names s text ≡ text ∷ []
names_one s [] h = refl
names_one s (b ∷ t) h = rw (ne_eqb b s (All-head (λ b. b ≢ s) b t h), names_one s t (All-tail (λ b. b ≢ s) b t h))

-- what is before the first separator is the first name
names_cut : (s : ℕ) (n rest : List ℕ) → All (λ b. b ≢ s) n → names s (n ++ s ∷ rest) ≡ n ∷ names s rest
names_cut s [] rest h = rw (eq-eqb s s refl)
names_cut s (b ∷ n) rest h = rw (ne_eqb b s (All-head (λ b. b ≢ s) b n h), names_cut s n rest (All-tail (λ b. b ≢ s) b n h))

-- a text may be cut at its end, and before a separator
pub cut_boundary : (s : ℕ) (path : List ℕ) (end : ℕ) → s < 128 → end ≤ length path → (end < length path → get_or path end 0 ≡ s) → IsCharBoundary path end
cut_boundary s path end low bound found = (bound, λ l k. omega arith)

-- a name and what follows it, of which the tail is all but the separator, are the names of both
tail_cut : (s : ℕ) (n rest : List ℕ) (tail : Option (Bor (List ℕ))) → s < 128 → All (λ b. b ≢ s) n → IsUtf8 rest → (0 < length rest → get_or rest 0 0 ≡ s) → GetsRange rest 1 (length rest) tail
    → names s (n ++ rest) ≡ n ∷ tail_names s (option_map (λ t. t.now) tail)
tail_cut s n [] None low before text found got = ap (names s) (append-nil n) ∙ names_one s n before
tail_cut s n [] (Some x) low before text found got = absurd (let long = got.1 in omega (arith, long))
tail_cut s n (b ∷ rest) None low before text found got =
    let e : b ≡ s = found (omega arith) in
    absurd (got (omega arith) (IsCharBoundary-after_ascii (b ∷ rest) 0 text (omega arith) (omega (arith, e, low))) (IsCharBoundary-end (b ∷ rest)))
tail_cut s n (b ∷ rest) (Some x) low before text found got =
    let e : b ≡ s = found (omega arith) in
    let all : x.now ≡ rest = got.0 ∙ take_all (length (b ∷ rest) - 1) rest (omega arith) in
    ap (λ z. names s (n ++ z ∷ rest)) e ∙ (names_cut s n rest before ∙ ap (λ z. n ∷ names s z) (sym all))

-- a path that is cut where its first separator is has the first part as its first name
pub cut_names : (s : ℕ) (path : List ℕ) (end : ℕ) (tail : Option (Bor (List ℕ))) → s < 128 → IsUtf8 path → end ≤ length path → All (λ b. b ≢ s) (take end path) → (end < length path → get_or path end 0 ≡ s)
    → GetsRange (drop end path) 1 (length (drop end path)) tail → names s path ≡ take end path ∷ tail_names s (option_map (λ t. t.now) tail)
cut_names s path end tail low text bound before found got =
    let long = length-drop end path in
    let first : 0 < length (drop end path) → get_or (drop end path) 0 0 ≡ s = λ l. get_or-drop end path 0 0 ∙ (ap (λ k. get_or path k 0) (let e : end + 0 ≡ end = omega arith in e) ∙ found (omega (arith, l, long))) in
    ap (names s) (sym (take-append-drop end path)) ∙ tail_cut s (take end path) (drop end path) tail low before (IsUtf8-drop path end text (cut_boundary s path end low bound found)) first got

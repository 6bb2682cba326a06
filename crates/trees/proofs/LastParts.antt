-- What is behind the last slash of a path.
use Rattle.trees.proofs.Common.{◌≡◌, ◌≢◌, ◌∙◌, ℕ, ◌<◌, List, [], ◌∷◌, ◌++◌, length, get_or, take, drop, refl, sym, ap, subst, length-append, Option, Some, None, MatchOption, arith, take-append-drop, drop_at_char, NoCharPasses-char, HasCharAt, RFindsChar}
use Rattle.std.proofs.Math.Seq.{get_or-append_seam}
use Rattle.trees.specs.Documents.{IsLastPart}

-- a text has no slash
abbrev LacksSlash : List ℕ → Type 0
LacksSlash text = (before after : List ℕ) → text ≢ before ++ 47 ∷ after

lacks_slash : (text : List ℕ) → ((i : ℕ) → i < length text → get_or text i 0 ≢ 47) → LacksSlash text
lacks_slash text none = λ before after e.
    none (length before) (subst (λ (t : List ℕ). length before < length t) (sym e) (omega (arith, length-append before (47 ∷ after))))
    (ap (λ (t : List ℕ). get_or t (length before) 0) e ∙ get_or-append_seam before 47 after 0)

-- a text is cut at its last slash in one way
one_cut : (a b c d : List ℕ) → a ++ 47 ∷ b ≡ c ++ 47 ∷ d → LacksSlash b → LacksSlash d → (a ≡ c) × (b ≡ d)
one_cut [] b [] d e lb ld = (refl, cc)
one_cut [] b (x ∷ c) d e lb ld = (let rest : b ≡ c ++ 47 ∷ d = cc in absurd (lb c d rest))
one_cut (x ∷ a) b [] d e lb ld = (let rest : d ≡ a ++ 47 ∷ b = cc in absurd (ld a b rest))
one_cut (x ∷ a) b (y ∷ c) d e lb ld =
    let rest : a ++ 47 ∷ b ≡ c ++ 47 ∷ d = cc in
    let head : x ≡ y = cc in
    let more = one_cut a b c d rest lb ld in
    (ap (λ (z : ℕ). z ∷ a) head ∙ ap (λ (t : List ℕ). y ∷ t) more.0, more.1)

slash_at : (path : List ℕ) (i j : ℕ) → HasCharAt 47 path i j → path ≡ take i path ++ 47 ∷ drop j path
slash_at path i j at = sym (take-append-drop i path) ∙ ap (λ (t : List ℕ). take i path ++ t) (drop_at_char 47 path i j at (omega arith))

lacks_none : (path : List ℕ) → RFindsChar 47 path None → LacksSlash path
lacks_none path none = lacks_slash path (λ i low. NoCharPasses-char 47 path i none (omega arith) low)

lacks_behind : (path : List ℕ) (p : ℕ × ℕ) → RFindsChar 47 path (Some p) → LacksSlash (drop p.1 path)
lacks_behind path p found = lacks_slash (drop p.1 path) (λ i low. NoCharPasses-char 47 (drop p.1 path) i found.0 (omega arith) low)

-- a path has one last part
pub last_same : (path one other : List ℕ) → IsLastPart path one → IsLastPart path other → one ≡ other
last_same path one other part part' = go part.0 part'.0 part.1 part'.1 part.2 part'.2 where
  go : (r s : Option (ℕ × ℕ)) → RFindsChar 47 path r → RFindsChar 47 path s → MatchOption r (one ≡ path) (λ found. one ≡ drop found.1 path) → MatchOption s (other ≡ path) (λ found. other ≡ drop found.1 path) → one ≡ other
  go None None none none' is is' = is ∙ sym is'
  go None (Some q) none found is is' = absurd (lacks_none path none (take q.0 path) (drop q.1 path) (slash_at path q.0 q.1 found.1))
  go (Some p) None found none is is' = absurd (lacks_none path none (take p.0 path) (drop p.1 path) (slash_at path p.0 p.1 found.1))
  go (Some p) (Some q) found found' is is' =
      is
      ∙ ((one_cut (take p.0 path) (drop p.1 path) (take q.0 path) (drop q.1 path) (sym (slash_at path p.0 p.1 found.1) ∙ slash_at path q.0 q.1 found'.1) (lacks_behind path p found) (lacks_behind path q found')).1
      ∙ sym is')

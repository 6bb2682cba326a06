-- Parts of texts.
use Rattle.std.specs.Cmp.{both_ways}
use Rattle.std.specs.Prelude.{◌↔◌}
use Rattle.std.specs.Str.Iter.{HasSubslice}
use Rattle.std.proofs.Common.{◌≡◌, ◌∙◌, ℕ, Bool, true, false, List, [], ◌∷◌, ◌++◌, ◌||◌, ap, sym, refl, subst, eqb-true, eq-eqb, arith}
use Rattle.std.proofs.lemmas.Bool.{and_parts, and_from}
use Rattle.ptree_trees.specs.Parts.{begins_with, has_part}

-- a text that begins with a part is the part and a rest
pub begins : (part text : List ℕ) → begins_with part text ≡ true → (rest : List ℕ) × (text ≡ part ++ rest)
begins [] text h = (text, refl)
begins (c ∷ part) [] h = absurd (cc)
begins (c ∷ part) (d ∷ text) h =
    let s = and_parts _ _ h in
    let q = begins part text s.1 in
    (q.0, ap (λ e. e ∷ text) (sym (eqb-true c d s.0)) ∙ ap (λ z. c ∷ z) q.1)

-- a part and a rest begin with the part
pub begun : (part rest : List ℕ) → begins_with part (part ++ rest) ≡ true
begun [] rest = refl
begun (c ∷ part) rest = and_from _ _ (eq-eqb c c refl) (begun part rest)

-- a text that has a part is what stands before it, the part and a rest
has : (part text : List ℕ) → has_part part text ≡ true → HasSubslice text part
has part [] h = let q = begins part [] h in ([], q.0, q.1)
has part (c ∷ text) h = by_begin (begins_with part (c ∷ text)) refl h (has part text)
  where
    by_begin : (b : Bool) → begins_with part (c ∷ text) ≡ b → (b || has_part part text) ≡ true → (has_part part text ≡ true → HasSubslice text part) → HasSubslice (c ∷ text) part
    by_begin true e h further = let q = begins part (c ∷ text) e in ([], q.0, q.1)
    by_begin false e h further = let q = further h in (c ∷ q.0, q.1, ap (λ z. c ∷ z) q.2)

-- a text with the part in it has it
had : (part before rest : List ℕ) → has_part part (before ++ (part ++ rest)) ≡ true
had part [] rest = at_begin (part ++ rest) (begun part rest)
  where
    at_begin : (text : List ℕ) → begins_with part text ≡ true → has_part part text ≡ true
    at_begin [] h = h
    at_begin (c ∷ text) h = rw h refl
had part (c ∷ before) rest = grind (arith, had part before rest)

-- what says whether a part stands in a text that is shown is the test of the text
pub part_test : (part text shown : List ℕ) (r : Bool) → shown ≡ text → (r ≡ true) ↔ HasSubslice shown part → r ≡ has_part part text
part_test part text shown r same h =
    subst (λ (z : List ℕ). r ≡ has_part part z) same (both_ways r (has_part part shown) (λ e. in_text (h.0 e)) (λ e. h.1 (has part shown e)))
  where
    in_text : HasSubslice shown part → has_part part shown ≡ true
    in_text q = rw q.2 (had part q.0 q.1)

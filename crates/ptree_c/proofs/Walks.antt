-- Items drawn in turn.
use Rattle.std.proofs.Common.{◌≡◌, ℕ, suc, ◌+◌, ◌-◌, ◌<◌, ◌≤◌, List, [], ◌∷◌, ◌++◌, length, take, drop, get_or, refl, sym, ap, ◌∙◌, append_assoc, add-one, arith}
use Rattle.std.proofs.Math.Seq.{drop-cons}
use Rattle.std.proofs.lemmas.Bool.{eq-eqb}
use Rattle.std.proofs.lemmas.List.{append-nil, length-append, length-take-le, length-drop, take_more}
use Rattle.ptree.specs.Drawing.{Look}
use Rattle.ptree_c.specs.Steps.{path_with, path_after, step_entry, steps_text}
use Rattle.ptree_c.specs.declared.steps.Step.{Step}

-- the path after items and one more
pub after_more : (path : List ℕ) (a : List Step) (s : Step) → path_after path (a ++ s ∷ []) ≡ path_with (path_after path a) s.level s.is_last
after_more path [] s = refl
after_more path (x ∷ a) s = after_more (path_with path x.level x.is_last) a s

-- the entries of items and of one more
pub text_more : (look : Look) (texts path : List ℕ) (a : List Step) (s : Step) → steps_text look texts path (a ++ s ∷ []) ≡ steps_text look texts path a ++ step_entry look texts (path_after path a) s
text_more look texts path [] s = append-nil (step_entry look texts path s)
text_more look texts path (x ∷ a) s =
    ap (λ z. step_entry look texts path x ++ z) (text_more look texts (path_with path x.level x.is_last) a s)
    ∙ sym (append_assoc (step_entry look texts path x) (steps_text look texts (path_with path x.level x.is_last) a) (step_entry look texts (path_after path (x ∷ a)) s))

-- where the rest begins with an item, that is the next one
pub next_of : {A : Type 0} (xs : List A) (n : ℕ) (x : A) (t : List A) → x ∷ t ≡ drop n xs → (n < length xs) × (take (n + 1) xs ≡ take n xs ++ x ∷ []) × (drop (n + 1) xs ≡ t)
next_of xs n x t e =
    let within : n < length xs = omega (arith, ap length e, length-drop n xs) in
    let both : get_or xs n x ∷ drop (suc n) xs ≡ x ∷ t = sym (drop-cons xs n x within) ∙ sym e in
    let first : get_or xs n x ≡ x = cc in
    let rest : drop (suc n) xs ≡ t = cc in
    (within, take_more xs n x within ∙ ap (λ y. take n xs ++ y ∷ []) first, ap (λ k. drop k xs) (add-one n) ∙ rest)

-- a path stays as long as it was
pub with_length : (path : List ℕ) (level last : ℕ) → level ≤ length path → length (path_with path level last) ≡ length path
with_length path level last h =
    let front = length-take-le (level - 1) path (omega arith) in
    grind (arith, eq-eqb level 0, length-append (take (level - 1) path) (last ∷ drop level path), front, length-drop level path)

-- Reports on several sources, or lines of several fields.
use Rattle.trees.proofs.Common.{◌≡◌, ℕ, ◌+◌, ◌<◌, ◌++◌, Result, Ok, Err, List, [], ◌∷◌, length, take, get_or, sym, ap, ◌∙◌, subst, append_assoc, OnOk, is_ok, if◌then◌else◌, concat, AllZip, concat-append}
use Rattle.std.proofs.lemmas.List.{append-nil, take_more}
use Rattle.trees.specs.Reading.{Adds}
use Rattle.trees.proofs.Elements.{zip_push}

-- nothing is added of none
pub adds_nothing : {X : Type 0} (R : X → List ℕ → Type 0) (a : List ℕ) → Adds R [] a a
adds_nothing R a = ([], sym (append-nil a), tt)

-- what a call leaves on success
pub on_ok_is : {A E X : Type 0} (r : Result A E) (new a b : X) → new ≡ (if is_ok r then a else b) → OnOk r (new ≡ a)
on_ok_is (Ok x) new a b h = h
on_ok_is (Err e) new a b h = tt

-- one report more
pub adds_next : {X : Type 0} (R : X → List ℕ → Type 0) (sources : List X) (i : ℕ) (source : X) (a b c more : List ℕ) → i < length sources → source ≡ get_or sources i source
    → Adds R (take i sources) a b → c ≡ b ++ more → R source more → Adds R (take (i + 1) sources) a c
adds_next R sources i source a b c more low is before added r =
    let parts : c ≡ a ++ concat (before.0 ++ more ∷ []) =
    added ∙ (ap (λ z. z ++ more) before.1 ∙ (append_assoc a (concat before.0) more ∙ ap (λ z. a ++ z) (sym (concat-append before.0 (more ∷ []) ∙ ap (λ z. concat before.0 ++ z) (append-nil more))))) in
    let next : take (i + 1) sources ≡ take i sources ++ source ∷ [] = rw (← is) at (take_more sources i source low) in
    (before.0 ++ more ∷ [], parts, subst (λ xs. AllZip R xs (before.0 ++ more ∷ [])) (sym next) (zip_push R (take i sources) before.0 source more before.2 r))

-- How messages say where a value stands.
use Rattle.std.proofs.Common.{◌≡◌, ◌≢◌, ℕ, ◌+◌, ◌<◌, true, List, [], ◌∷◌, ◌++◌, map, take, length, get_or, refl, sym, ap, ◌∙◌, codes, append_assoc}
use Rattle.std.proofs.lemmas.List.{append-nil, map_more}
use Rattle.ptree_trees.specs.declared.documents.refused.Step.{Step}
use Rattle.ptree_trees.specs.RefusedPath.{StepValue, Path, step_of}
use Rattle.trees.specs.Documents.{step_text, steps_text, path_text}

-- one step more
steps_push : (path : Path) (s : StepValue) → steps_text (path ++ s ∷ []) ≡ steps_text path ++ (codes "." ++ step_text s)
steps_push [] s = ap (λ z. codes "." ++ z) (append-nil (step_text s))
steps_push (r ∷ path) s =
    ap (λ z. codes "." ++ (step_text r ++ z)) (steps_push path s) ∙ ap (λ z. codes "." ++ z) (sym (append_assoc (step_text r) (steps_text path) (codes "." ++ step_text s)))

-- the same in a list of steps
pub next_step : (steps : List Step) (i : ℕ) (s : Step) (old new : List ℕ) → i < length steps → s ≡ get_or steps i s
    → old ≡ steps_text (map step_of (take i steps)) → new ≡ old ++ (codes "." ++ step_text (step_of s)) → new ≡ steps_text (map step_of (take (i + 1) steps))
next_step steps i s old new low is before added =
    let more : map step_of (take (i + 1) steps) ≡ map step_of (take i steps) ++ step_of s ∷ [] = map_more step_of steps i s low ∙ ap (λ x. map step_of (take i steps) ++ step_of x ∷ []) (sym is) in
    added ∙ (ap (λ z. z ++ (codes "." ++ step_text (step_of s))) before ∙ (sym (steps_push (map step_of (take i steps)) (step_of s)) ∙ ap steps_text (sym more)))

-- what is behind the first full stop
pub behind_stop : (steps rest : List ℕ) → steps ≡ codes "." ++ rest → (path : Path) → steps ≡ steps_text path → rest ≡ path_text true path
behind_stop steps rest is [] e = let no : ⊥ = cc in absurd no
behind_stop steps rest is (s ∷ path) e = cc

-- without steps there is none
pub no_stop : (steps : List ℕ) → ((rest : List ℕ) → steps ≢ codes "." ++ rest) → (path : Path) → steps ≡ steps_text path → codes "the top" ≡ path_text true path
no_stop steps none [] e = refl
no_stop steps none (s ∷ path) e = absurd (none (step_text s ++ steps_text path) e)

-- Lists whose elements are related place by place.
use Rattle.std.specs.Prelude.{All}
use Rattle.std.proofs.Common.{◌≡◌, List, [], ◌∷◌, ◌++◌, map, refl, ap, ◌∙◌}
use Rattle.std.proofs.lemmas.List.Elements.{All-nil, All-cons}
use Rattle.ptree.specs.Matched.{AreMatched}

-- one place more
pub matched_push : {X Y : Type 0} (R : X → Y → Type 0) (xs : List X) (ys : List Y) (x : X) (y : Y) → AreMatched R xs ys → R x y → AreMatched R (xs ++ x ∷ []) (ys ++ y ∷ [])
matched_push R [] [] x y h r = (r, tt)
matched_push R [] (z ∷ zs) x y h r = absurd h
matched_push R (w ∷ ws) [] x y h r = absurd h
matched_push R (w ∷ ws) (z ∷ zs) x y h r = (h.0, matched_push R ws zs x y h.1 r)

-- a value that both elements determine is the same at each place
pub matched_map : {X Y Z : Type 0} (R : X → Y → Type 0) (f : Y → Z) (g : X → Z) → ((x : X) (y : Y) → R x y → f y ≡ g x) → (xs : List X) (ys : List Y) → AreMatched R xs ys → map f ys ≡ map g xs
matched_map R f g e [] [] h = refl
matched_map R f g e [] (y ∷ ys) h = absurd h
matched_map R f g e (x ∷ xs) [] h = absurd h
matched_map R f g e (x ∷ xs) (y ∷ ys) h = ap (λ z. z ∷ map f ys) (e x y h.0) ∙ ap (λ zs. g x ∷ zs) (matched_map R f g e xs ys h.1)

-- a fact about each element that can be matched holds for all of them
pub matched_all : {X Y : Type 0} (R : X → Y → Type 0) (P : Y → Type 0) → ((x : X) (y : Y) → R x y → P y) → (xs : List X) (ys : List Y) → AreMatched R xs ys → All P ys
matched_all R P e [] [] h = All-nil P
matched_all R P e [] (y ∷ ys) h = absurd h
matched_all R P e (x ∷ xs) [] h = absurd h
matched_all R P e (x ∷ xs) (y ∷ ys) h = All-cons P y ys (e x y h.0) (matched_all R P e xs ys h.1)

-- Lists whose elements are related place by place.
use Rattle.std.specs.Prelude.{⊤, List, [], ◌∷◌}

-- the lists have the same length, and R holds of the two elements at each place
abbrev pub AreMatched : {X Y : Type 0} → (X → Y → Type 0) → List X → List Y → Type 0
AreMatched R [] [] = ⊤
AreMatched R [] (y ∷ ys) = ⊥
AreMatched R (x ∷ xs) [] = ⊥
AreMatched R (x ∷ xs) (y ∷ ys) = R x y × AreMatched R xs ys

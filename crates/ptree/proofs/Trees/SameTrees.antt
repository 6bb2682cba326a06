-- The test of trees' equality, when a row ends.
use Rattle.std.proofs.Common.{◌≡◌, List, [], ◌∷◌, length, map, ◌==◌, arith, refl}
use Rattle.std.proofs.lemmas.Bool.{ne_eqb}
use Rattle.ptree.specs.Equality.{same_forest}
use Rattle.ptree.specs.Tree.{none, Tree, forest}

-- no trees are equal to an empty row
pub none_test : {X : Type 0} (view : X → Tree) (xs : List X) → (length xs == 0) ≡ same_forest none (forest (map view xs))
none_test view [] = refl
none_test view (x ∷ xs) = ne_eqb (length (x ∷ xs)) 0 (omega arith)

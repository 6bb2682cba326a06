-- Elements of lists, and pairs of them.
use Rattle.trees.proofs.Common.{List, [], ◌∷◌, ◌++◌, get_or, subst, AllPairs, arith, AllZip}
use Rattle.std.proofs.lemmas.List.{get_or_append_left, length-append}

-- the pairs of a shorter list
pub pairs_front : {X : Type 0} (R : X → X → Type 0) (xs ys : List X) → AllPairs R (xs ++ ys) → AllPairs R xs
pairs_front R xs ys pairs = λ i j d less low.
    subst (λ x. R x (get_or xs j d)) (get_or_append_left xs ys d i (omega (arith, less, low)))
    (subst (R (get_or (xs ++ ys) i d)) (get_or_append_left xs ys d j low) (pairs i j d less (omega (arith, low, length-append xs ys))))

-- lists side by side that both go on
pub zip_both : {X Y : Type 0} (R : X → Y → Type 0) (xs ys : List X) (vs ws : List Y) → AllZip R xs vs → AllZip R ys ws → AllZip R (xs ++ ys) (vs ++ ws)
zip_both R [] ys [] ws a b = b
zip_both R (x ∷ xs) ys (v ∷ vs) ws a b = (a.0, zip_both R xs ys vs ws a.1 b)
zip_both R _ ys _ ws a b = absurd a

-- one pair more
pub zip_push : {X Y : Type 0} (R : X → Y → Type 0) (xs : List X) (ys : List Y) (x : X) (y : Y) → AllZip R xs ys → R x y → AllZip R (xs ++ x ∷ []) (ys ++ y ∷ [])
zip_push R xs ys x y zip r = zip_both R xs (x ∷ []) ys (y ∷ []) zip (r, tt)

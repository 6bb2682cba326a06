-- What is said of the first difference of two trees.
use Rattle.trees.proofs.Common.{◌+◌, ◌-◌, ◌++◌, ℕ, List, [], ◌∷◌, length, Option, Some, None, codes, refl, sym, subst, decimal, option_map, slice_get, unwrap_or, NoCharPasses, NoCharPasses-nil, NoCharPasses-append, Address, escaped_text}
use Rattle.ptree.specs.Tree.{Tree}
use Rattle.ptree_trees.specs.Difference.{text_at_address, texts_above}
use Rattle.trees.specs.declared.compare.Side.{Side}
use Rattle.trees.specs.declared.compare.Side.TheVariants.{Left, Right}
use Rattle.trees.specs.Merging.{TellsDifference, way_text, place_line, side_line, side_mark}
use Rattle.trees.specs.Shown.{is_raw}
use Rattle.trees.proofs.ShownMerges.{mark_calm}
use Rattle.trees.proofs.ShownTexts.{ascii_text, escaped_calm, number_calm}

-- texts on the way have no raw character
way_calm : (above : List (List ℕ)) → NoCharPasses is_raw (way_text above)
way_calm [] = NoCharPasses-nil is_raw
way_calm (text ∷ rest) =
    NoCharPasses-append is_raw (escaped_text text ++ codes " / ") (way_text rest)
    (NoCharPasses-append is_raw (escaped_text text) (codes " / ") (escaped_calm text) (ascii_text (codes " / ") refl)) (way_calm rest)

-- nor has the line of the place
place_calm : (a : Address) → NoCharPasses is_raw (place_line a)
place_calm a = by_last (slice_get a (length a - 1)) where
  by_last : (o : Option ℕ) → NoCharPasses is_raw (unwrap_or (option_map (λ i. codes "child " ++ (decimal (i + 1) ++ codes "\n")) o) (codes "root\n"))
  by_last None = ascii_text (codes "root\n") refl
  by_last (Some i) =
      NoCharPasses-append is_raw (codes "child ") (decimal (i + 1) ++ codes "\n") (ascii_text (codes "child ") refl)
      (NoCharPasses-append is_raw (decimal (i + 1)) (codes "\n") (number_calm (i + 1)) (ascii_text (codes "\n") refl))

-- nor has the line of a side
side_calm : (side : Side) (o : Option (List ℕ)) → NoCharPasses is_raw (side_line side o)
side_calm side None = NoCharPasses-append is_raw (side_mark side) (codes "(nothing)\n") (mark_calm side) (ascii_text (codes "(nothing)\n") refl)
side_calm side (Some text) =
    NoCharPasses-append is_raw (side_mark side) (escaped_text text ++ codes "\n") (mark_calm side)
    (NoCharPasses-append is_raw (escaped_text text) (codes "\n") (escaped_calm text) (ascii_text (codes "\n") refl))

-- nor has what is said of a difference
pub difference_calm : (t u : Tree) (said : List ℕ) → TellsDifference t u said → NoCharPasses is_raw said
difference_calm t u said h =
    let a : Address = h.0 in
    let left = side_line Left (text_at_address t a) in
    let right = side_line Right (text_at_address u a) in
    subst (NoCharPasses is_raw) (sym h.3)
    (NoCharPasses-append is_raw (way_text (texts_above t a)) (place_line a ++ (left ++ right)) (way_calm (texts_above t a))
    (NoCharPasses-append is_raw (place_line a) (left ++ right) (place_calm a)
    (NoCharPasses-append is_raw left right (side_calm Left (text_at_address t a)) (side_calm Right (text_at_address u a)))))

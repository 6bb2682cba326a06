-- Parts of texts.
use Rattle.std.specs.Prelude.{ℕ, Bool, true, false, List, [], ◌∷◌, ◌==◌, ◌&&◌, ◌||◌}

-- whether the text begins with the part
abbrev pub begins_with : List ℕ → List ℕ → Bool
begins_with [] text = true
begins_with (c ∷ part) [] = false
begins_with (c ∷ part) (d ∷ text) = c == d && begins_with part text

-- whether the part stands somewhere in the text
abbrev pub has_part : List ℕ → List ℕ → Bool
has_part part [] = begins_with part []
has_part part (c ∷ text) = begins_with part (c ∷ text) || has_part part text

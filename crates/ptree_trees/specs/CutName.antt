-- The first names of paths.
use Rattle.std.specs.Prelude.{ℕ, zero, suc, ◌+◌, ◌*◌, ◌^◌, ◌<◌, min, get_or, List, [], ◌∷◌, length, Option, Some, None}
use Rattle.ptree_trees.specs.Paths.{names}

-- each is a byte
abbrev pub AreBytes : List ℕ → Type 0
AreBytes name = (i : ℕ) → get_or name i 0 < 256

-- the first k bytes of a name as a number, its first byte before all others, with zero for each
-- byte that it lacks
abbrev pub front_number : ℕ → List ℕ → ℕ
front_number zero name = 0
front_number (suc k) [] = 0
front_number (suc k) (b ∷ name) = b * 256 ^ k + front_number k name

-- the first seven bytes of a name, and then how many it has, with 8 for more
abbrev pub name_key : List ℕ → ℕ
name_key name = front_number 7 name * 256 + min (length name) 8

-- the names of what follows a first name
abbrev pub tail_names : ℕ → Option (List ℕ) → List (List ℕ)
tail_names separator None = []
tail_names separator (Some tail) = names separator tail

-- An escaped text, written out.
use Rattle.std.specs.Prelude.{ℕ, List, [], ◌∷◌, ◌++◌, codes}

-- the escapes of a backslash, of the five controls with a letter, of five characters by their
-- codes, and a letter that stays
abbrev pub escaped_sample : List ℕ
escaped_sample = codes "a\\\\b\\t\\n\\r\\b\\f\\u001b\\u007f\\u009b\\u200e\\u2028" ++ 195 ∷ 169 ∷ []

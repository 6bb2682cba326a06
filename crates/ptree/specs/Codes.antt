-- What the private functions that gather codes refer to.
use Rattle.std.specs.Prelude.{◌≡◌, ⊤, ℕ, ◌+◌, ◌<◌, true, List, length, slice_index, take, flat_map}
use Rattle.std.specs.Char.{is_ascii_hexdigit}
use Rattle.ptree.specs.declared.style.codes.Codes.{Codes}
use Rattle.ptree.specs.declared.style.tone.Tone.{Tone}
use Rattle.ptree.specs.declared.style.tone.Tone.TheVariants.{Eight, Indexed, Direct}

-- a colour of the eight is one of them
abbrev pub IsOfEight : Tone → Type 0
IsOfEight (Eight k) = k < 8
IsOfEight (Indexed n) = ⊤
IsOfEight (Direct r g b) = ⊤

-- there are two hexadecimal digits, at a place and the next one
pub record HasHexDigits (bytes : List ℕ) (at : ℕ) : Type 0 where
  pub room : at + 1 < length bytes
  pub high : is_ascii_hexdigit (slice_index bytes at) ≡ true
  pub low : is_ascii_hexdigit (slice_index bytes (at + 1)) ≡ true

-- the bytes gathered so far
abbrev pub codes_of : Codes → List ℕ
codes_of c = take c.len c.bytes

-- codes, one after the other
abbrev pub joined_codes : List (List ℕ) → List ℕ
joined_codes codes = flat_map (λ code. code) codes

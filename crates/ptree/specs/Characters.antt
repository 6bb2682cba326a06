-- The characters that branches are drawn with, and the shipped sets of them, in UTF-8.
use Rattle.std.specs.Prelude.{◌≡◌, ◌⊎◌, ℕ, Bool, List, [], ◌∷◌, Option, Some, None, if◌then◌else◌, codes, string_bytes}
use Rattle.std.specs.Str.{bytes_eq, str_eq_ignore_ascii_case}
use Rattle.ptree.specs.declared.print_config.characters.IndentChars.{IndentChars}
use Rattle.ptree.specs.declared.print_config.characters.StaticIndentChars.{StaticIndentChars}
use Rattle.ptree.specs.declared.print_config.parse.Spelling.{Spelling}
use Rattle.ptree.specs.declared.print_config.parse.Spelling.TheVariants.{Exact, AnyCase}

-- the texts that pieces are made of
pub record Characters : Type 0 where
  pub down_and_right : List ℕ
  pub down : List ℕ
  pub turn_right : List ℕ
  pub right : List ℕ
  pub empty : List ℕ

-- the characters of these texts
abbrev pub characters_from : List ℕ → List ℕ → List ℕ → List ℕ → List ℕ → Characters
characters_from down_and_right down turn_right right empty =
    record { down_and_right = down_and_right; down = down; turn_right = turn_right; right = right; empty = empty }

-- the characters of a set
abbrev pub characters_of : IndentChars → Characters
characters_of c =
    characters_from (string_bytes c.down_and_right) (string_bytes c.down) (string_bytes c.turn_right) (string_bytes c.right)
    (string_bytes c.empty)

-- the characters of a static set
abbrev pub static_characters_of : StaticIndentChars → Characters
static_characters_of s = characters_from s.down_and_right.now s.down.now s.turn_right.now s.right.now s.empty.now

-- vertical bars and a backquote
abbrev pub ascii_tick : Characters
ascii_tick = record {
  down_and_right = codes "|";
  down = codes "|";
  turn_right = codes "`";
  right = codes "-";
  empty = codes " ";
}

-- plus signs and a vertical bar
abbrev pub ascii_plus : Characters
ascii_plus = record ascii_tick { down_and_right = codes "+"; turn_right = codes "+" }

-- ├ │ └ ─
abbrev pub utf : Characters
utf = record {
  down_and_right = 226 ∷ 148 ∷ 156 ∷ [];  -- ├
  down = 226 ∷ 148 ∷ 130 ∷ [];  -- │
  turn_right = 226 ∷ 148 ∷ 148 ∷ [];  -- └
  right = 226 ∷ 148 ∷ 128 ∷ [];  -- ─
  empty = 32 ∷ [];
}

-- ╠ ║ ╚ ═
abbrev pub utf_double : Characters
utf_double = record {
  down_and_right = 226 ∷ 149 ∷ 160 ∷ [];  -- ╠
  down = 226 ∷ 149 ∷ 145 ∷ [];  -- ║
  turn_right = 226 ∷ 149 ∷ 154 ∷ [];  -- ╚
  right = 226 ∷ 149 ∷ 144 ∷ [];  -- ═
  empty = 32 ∷ [];
}

-- ┣ ┃ ┗ ━
abbrev pub utf_bold : Characters
utf_bold = record {
  down_and_right = 226 ∷ 148 ∷ 163 ∷ [];  -- ┣
  down = 226 ∷ 148 ∷ 131 ∷ [];  -- ┃
  turn_right = 226 ∷ 148 ∷ 151 ∷ [];  -- ┗
  right = 226 ∷ 148 ∷ 129 ∷ [];  -- ━
  empty = 32 ∷ [];
}

-- ├ ┆ └ ╌
abbrev pub utf_dashed : Characters
utf_dashed = record utf { down = 226 ∷ 148 ∷ 134 ∷ []; right = 226 ∷ 149 ∷ 140 ∷ [] }

-- a shipped set other than the one with a backquote
abbrev pub IsShippedWithoutTicks : Characters → Type 0
IsShippedWithoutTicks c = (c ≡ ascii_plus) ⊎ ((c ≡ utf) ⊎ ((c ≡ utf_double) ⊎ ((c ≡ utf_bold) ⊎ (c ≡ utf_dashed))))

-- one of the shipped sets
abbrev pub IsShipped : Characters → Type 0
IsShipped c = (c ≡ ascii_tick) ⊎ IsShippedWithoutTicks c

-- a text is this keyword, exactly or in any ASCII case
abbrev pub is_spelled : Spelling → List ℕ → List ℕ → Bool
is_spelled Exact text keyword = bytes_eq text keyword
is_spelled AnyCase text keyword = str_eq_ignore_ascii_case text keyword

-- the set with a name
abbrev pub parse_set : Spelling → List ℕ → Option Characters
parse_set spelling name =
    if is_spelled spelling name (codes "utf") then Some utf else
    if is_spelled spelling name (codes "ascii") then Some ascii_tick else
    if is_spelled spelling name (codes "ascii-tick") then Some ascii_tick else
    if is_spelled spelling name (codes "ascii-plus") then Some ascii_plus else
    if is_spelled spelling name (codes "utf-bold") then Some utf_bold else
    if is_spelled spelling name (codes "utf-dashed") then Some utf_dashed else
    if is_spelled spelling name (codes "utf-double") then Some utf_double else None

-- the set with a name, exactly as spelled
abbrev pub set_named : List ℕ → Option Characters
set_named = parse_set Exact

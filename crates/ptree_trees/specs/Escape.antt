-- Texts in which an escape replaces each character that a terminal acts on.
use Rattle.std.specs.Prelude.{ℕ, ◌==◌, ◌/◌, ◌%◌, ◌||◌, Bool, if◌then◌else◌, List, [], ◌∷◌, flat_map, Option, Some, None, unwrap_or, option_map}
use Rattle.std.specs.Char.{is_control, digit_char}
use Rattle.std.specs.Int.{is_in_range}
use Rattle.std.specs.Str.{chars, encode_utf8_all}
use Rattle.ptree.specs.Tree.{Forest, none, item, Tree, tree}

-- the character changes the direction of the text after it
abbrev pub turns_text : ℕ → Bool
turns_text c = c == 0x061C || is_in_range 0x200E 0x200F c || is_in_range 0x202A 0x202E c || is_in_range 0x2066 0x2069 c

-- the character separates lines or paragraphs
abbrev pub separates_lines : ℕ → Bool
separates_lines c = is_in_range 0x2028 0x2029 c

-- a terminal would act on the character, and not show it
abbrev pub is_hidden : ℕ → Bool
is_hidden c = is_control c || turns_text c || separates_lines c

-- a backslash
abbrev pub backslash : ℕ
backslash = 92

-- the character has an escape
abbrev pub is_escaped : ℕ → Bool
is_escaped c = c == backslash || is_hidden c

-- the letter of a character's short escape, if it has one: b, t, n, f, r, or a second backslash
abbrev pub escape_letter : ℕ → Option ℕ
escape_letter c =
    if c == 8 then Some 98 else
    if c == 9 then Some 116 else
    if c == 10 then Some 110 else
    if c == 12 then Some 102 else
    if c == 13 then Some 114 else
    if c == backslash then Some backslash else None

-- a u
abbrev pub letter_u : ℕ
letter_u = 117

-- the four lowercase hexadecimal digits of a character's code
abbrev pub hex_digits : ℕ → List ℕ
hex_digits c = digit_char (c / 4096) ∷ digit_char (c / 256 % 16) ∷ digit_char (c / 16 % 16) ∷ digit_char (c % 16) ∷ []

-- what stands for a character: a backslash and its letter, or a backslash, a u and its digits, or
-- the character itself
abbrev pub escape_char : ℕ → List ℕ
escape_char c = unwrap_or (option_map (λ l. backslash ∷ l ∷ []) (escape_letter c)) (if is_hidden c then backslash ∷ letter_u ∷ hex_digits c else c ∷ [])

-- the text with its characters escaped
abbrev pub escaped_text : List ℕ → List ℕ
escaped_text text = encode_utf8_all (flat_map escape_char (chars text))

-- the forest with f of each text in its place
abbrev pub mapped_forest : (List ℕ → List ℕ) → Forest → Forest
mapped_forest f none = none
mapped_forest f (item t c r) = item (f t) (mapped_forest f c) (mapped_forest f r)

-- the tree with f of each text in its place
abbrev pub mapped_tree : (List ℕ → List ℕ) → Tree → Tree
mapped_tree f t = tree (f t.text) (mapped_forest f t.children)

-- What a terminal may get.
use Rattle.std.specs.Prelude.{◌≡◌, ◌⊎◌, ℕ, ◌==◌, ◌||◌, ◌&&◌, not, Bool, true, false, if◌then◌else◌, List, [], ◌∷◌, flat_map, All, Option, String, string_bytes}
use Rattle.std.specs.declared.alloc.Global.{Global}
use Rattle.std.specs.List.{concat}
use Rattle.std.specs.Str.{chars, encode_utf8_all, NoCharPasses}
use Rattle.ptree.specs.declared.graph.Graph.{Graph}
use Rattle.ptree.specs.Characters.{Characters}
use Rattle.ptree.specs.Config.{ConfigValue}
use Rattle.ptree.specs.Drawing.{Look}
use Rattle.ptree.specs.Graph.{weights_of}
use Rattle.ptree.specs.Style.{StyleValue, start_codes, end_codes}
use Rattle.ptree.specs.Writing.{AppendsPart}
use Rattle.ptree_trees.specs.Escape.{backslash, is_hidden, escape_char, escaped_text}

-- ## What is escaped

-- what a terminal may get for a character: its escape, but line feeds and backslashes stay
abbrev pub shown_char : ℕ → List ℕ
shown_char c = if c == 10 || c == backslash then c ∷ [] else escape_char c

-- lines as a terminal may get them
abbrev pub shown_lines : List ℕ → List ℕ
shown_lines text = encode_utf8_all (flat_map shown_char (chars text))

-- lines as they are written: for a terminal escaped
abbrev pub shown_on : Bool → List ℕ → List ℕ
shown_on is_terminal lines = if is_terminal then shown_lines lines else lines

-- a text as it is written: for a terminal escaped
abbrev pub shown_text : Bool → List ℕ → List ℕ
shown_text is_terminal text = if is_terminal then escaped_text text else text

-- the characters of pieces as a terminal may get them
abbrev pub shown_characters : Characters → Characters
shown_characters c =
    record { down_and_right = shown_lines c.down_and_right; down = shown_lines c.down; turn_right = shown_lines c.turn_right; right = shown_lines c.right; empty = shown_lines c.empty }

-- a configuration as it is drawn by: for a terminal with its characters and its marker escaped
abbrev pub shown_config : Bool → ConfigValue → ConfigValue
shown_config false config = config
shown_config true config = record config { characters = shown_characters config.characters; continued = shown_lines config.continued }

-- no label has a character that a terminal would act on
abbrev pub AreShownLabels : Graph (String Global) → Type 0
AreShownLabels graph = All (λ label. NoCharPasses is_hidden (string_bytes label)) (weights_of graph)

-- ## What is written

-- a terminal would act on the character and not show it, and it is no line feed
abbrev pub is_raw : ℕ → Bool
is_raw c = is_hidden c && not (c == 10)

-- texts without a raw character and texts of which Code holds, joined: a terminal acts on line feeds
-- and on the latter alone
abbrev pub IsShown : (List ℕ → Type 0) → List ℕ → Type 0
IsShown Code bytes = (parts : List (List ℕ)) × (bytes ≡ concat parts) × All (λ part. NoCharPasses is_raw part ⊎ Code part) parts

-- a terminal gets such bytes, or a prefix of them
abbrev pub ShowsOnly : Bool → (List ℕ → Type 0) → Option (List ℕ) → Option (List ℕ) → Type 0
ShowsOnly is_terminal Code old new = is_terminal ≡ true → (bytes : List ℕ) × IsShown Code bytes × AppendsPart old new bytes

-- no text
abbrev pub IsNone : List ℕ → Type 0
IsNone part = ⊥

-- the codes before a text in this style, or the reset after it
abbrev pub IsCodeOf : StyleValue → List ℕ → Type 0
IsCodeOf style part = (part ≡ start_codes style) ⊎ (part ≡ end_codes style)

-- such a code of one of the styles of a look
abbrev pub IsLookCode : Look → List ℕ → Type 0
IsLookCode look part = IsCodeOf look.branch part ⊎ IsCodeOf look.leaf part

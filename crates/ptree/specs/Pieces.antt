-- The four pieces before items.
use Rattle.std.specs.Prelude.{ℕ, ◌+◌, ◌-◌, Bool, if◌then◌else◌, List, [], ◌∷◌, ◌++◌, string_bytes}
use Rattle.std.specs.List.{repeat}
use Rattle.ptree.specs.declared.output.indent.Indent.{Indent}
use Rattle.ptree.specs.declared.print_config.PrintConfig.{PrintConfig}
use Rattle.ptree.specs.Characters.{Characters, characters_of}

-- the texts before an item's own bytes
pub record Pieces : Type 0 where
  pub regular : List ℕ
  pub child : List ℕ
  pub last_regular : List ℕ
  pub last_child : List ℕ

-- an item's piece on its own line, by whether it is last
abbrev pub turning_piece : Pieces → Bool → List ℕ
turning_piece p last = if last then p.last_regular else p.regular

-- an item's piece on the lines below it, by whether it is last
abbrev pub passing_piece : Pieces → Bool → List ℕ
passing_piece p last = if last then p.last_child else p.child

-- the passing pieces of items, by whether each is a last child
abbrev pub passing_all : Pieces → List Bool → List ℕ
passing_all p [] = []
passing_all p (b ∷ bs) = passing_piece p b ++ passing_all p bs

-- The pieces of characters, indent and padding. A difference of natural numbers is 0 if it would be
-- negative.
abbrev pub pieces_from : Characters → ℕ → ℕ → Pieces
pieces_from c indent padding =
    let n = indent - (1 + padding) in
    record {
      regular = c.down_and_right ++ repeat n c.right ++ repeat padding c.empty;
      child = c.down ++ repeat n c.empty ++ repeat padding c.empty;
      last_regular = c.turn_right ++ repeat n c.right ++ repeat padding c.empty;
      last_child = c.empty ++ repeat n c.empty ++ repeat padding c.empty;
    }

-- the pieces of a configuration
abbrev pub config_pieces : PrintConfig → Pieces
config_pieces config = pieces_from (characters_of config.characters) config.indent config.padding

-- the marker of a configuration
abbrev pub marker_of : PrintConfig → List ℕ
marker_of config = string_bytes config.continued

-- the pieces that an `Indent` holds
abbrev pub pieces_of : Indent → Pieces
pieces_of i = record {
  regular = string_bytes i.regular_prefix;
  child = string_bytes i.child_prefix;
  last_regular = string_bytes i.last_regular_prefix;
  last_child = string_bytes i.last_child_prefix;
}

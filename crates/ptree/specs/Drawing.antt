-- A drawing, by the addresses of a shape. No definition here recurses over the output: each entry
-- is a function of its own address.
use Rattle.std.specs.Prelude.{◌≡◌, ℕ, Bool, false, if◌then◌else◌, nat_eq, List, [], ◌∷◌, ◌++◌, flat_map, option_map, unwrap_or}
use Rattle.ptree.specs.declared.print_config.OutputKind.{OutputKind}
use Rattle.ptree.specs.declared.print_config.OutputKind.TheVariants.{Unknown}
use Rattle.ptree.specs.declared.print_config.PrintConfig.{PrintConfig}
use Rattle.ptree.specs.Address.{Address, at, IsAddressList, is_last, prefixes, parent}
use Rattle.ptree.specs.Config.{is_styled, ConfigValue, config_of}
use Rattle.ptree.specs.Pieces.{Pieces, passing_piece, turning_piece, pieces_from}
use Rattle.ptree.specs.Shape.{Shape, kids}
use Rattle.ptree.specs.Style.{StyleValue, plain_value, painted_text}
use Rattle.ptree.specs.Texts.{line_feed}

-- how a drawing looks: the effective styles, the pieces, and the marker before an item's further
-- lines
pub record Look : Type 0 where
  pub branch : StyleValue
  pub leaf : StyleValue
  pub pieces : Pieces
  pub marker : List ℕ

-- the look of two styles, pieces and a marker
abbrev pub look_from : StyleValue → StyleValue → Pieces → List ℕ → Look
look_from branch leaf pieces marker = record { branch = branch; leaf = leaf; pieces = pieces; marker = marker }

-- a style if output is styled, else the plain one
abbrev pub effective_style : Bool → StyleValue → StyleValue
effective_style styled style = if styled then style else plain_value

-- the look that a configuration's value gives output of a kind; the last argument says whether
-- standard output is a terminal
abbrev pub look_by : ConfigValue → OutputKind → Bool → Look
look_by value kind terminal =
    let styled = is_styled value.styled kind terminal in
    look_from (effective_style styled value.branch) (effective_style styled value.leaf) (pieces_from value.characters value.indent value.padding) value.continued

-- the look that a configuration gives
abbrev pub config_look : PrintConfig → OutputKind → Bool → Look
config_look config = look_by (config_of config)

-- the look that a configuration gives output other than standard output
abbrev pub written_look : PrintConfig → Look
written_look config = config_look config Unknown false

-- the passing text of an address: a passing piece for each nonempty prefix of it
abbrev pub passing_text : Look → Shape → Address → List ℕ
passing_text look x a = flat_map (λ b. passing_piece look.pieces (is_last kids x b)) (prefixes a)

-- the prefix of an address: empty for the root, else the parent's passing text and a turning piece
abbrev pub prefix_text : Look → Shape → Address → List ℕ
prefix_text look x [] = []
prefix_text look x (i ∷ rest) = passing_text look x (parent (i ∷ rest)) ++ turning_piece look.pieces (is_last kids x (i ∷ rest))

-- a text with another one inserted after each of its line feeds
abbrev pub with_inserted : List ℕ → List ℕ → List ℕ
with_inserted inserted text = flat_map (λ b. if nat_eq b line_feed then line_feed ∷ inserted else b ∷ []) text

-- the text before a further line of an item: its passing text and the marker, painted as branches
abbrev pub continued_prefix : Look → List ℕ → List ℕ
continued_prefix look passing = painted_text look.branch (passing ++ look.marker)

-- the painted prefix, the own bytes with the prefix of further lines after each of their line
-- feeds, and a line feed
abbrev pub entry_from : Look → List ℕ → List ℕ → List ℕ → List ℕ
entry_from look prefix passing own = painted_text look.branch prefix ++ with_inserted (continued_prefix look passing) own ++ line_feed ∷ []

-- the own bytes of the item at an address
abbrev pub own_at : Look → Shape → Address → List ℕ
own_at look x a = unwrap_or (option_map (λ y. y.own [] look.leaf) (at kids x a)) []

-- the entry of an address
abbrev pub entry_text : Look → Shape → Address → List ℕ
entry_text look x a = entry_from look (prefix_text look x a) (passing_text look x a) (own_at look x a)

-- the entries over the address list, joined
abbrev pub IsDrawing : Look → Shape → ℕ → List ℕ → Type 0
IsDrawing look x depth bytes = (list : List Address) × IsAddressList kids x depth list × (bytes ≡ flat_map (entry_text look x) list)

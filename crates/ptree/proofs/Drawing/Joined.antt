-- What holds of each part of a drawing, and of two texts joined if of both, holds of the drawing.
use Rattle.std.specs.Prelude.{Bool, true, false, Option, Some, None, slice_get, option_map, option_and_then, unwrap_or, flat_map}
use Rattle.std.specs.List.{repeat}
use Rattle.std.proofs.Common.{◌≡◌, ℕ, zero, suc, ◌+◌, ◌-◌, List, [], ◌∷◌, ◌++◌, map, sym, ap, ◌∙◌, subst}
use Rattle.std.proofs.lemmas.Option.{slice_get-map}
use Rattle.ptree.specs.Address.{Address, at, prefixes, is_last, parent}
use Rattle.ptree.specs.Characters.{Characters}
use Rattle.ptree.specs.Drawing.{Look, passing_text, prefix_text, with_inserted, continued_prefix, own_at, entry_text, IsDrawing}
use Rattle.ptree.specs.Pieces.{pieces_from, turning_piece, passing_piece}
use Rattle.ptree.specs.Shape.{Shape, kids}
use Rattle.ptree.specs.Style.{painted_text}

-- Q holds of the characters of pieces
pub record OfCharacters (Q : List ℕ → Type 0) (c : Characters) : Type 0 where
  pub down_and_right : Q c.down_and_right
  pub down : Q c.down
  pub turn_right : Q c.turn_right
  pub right : Q c.right
  pub empty : Q c.empty

-- Q holds of the parts of a look: of its pieces, of a line feed, and of what is painted as branches
pub record OfLook (Q : List ℕ → Type 0) (look : Look) : Type 0 where
  pub turning : (last : Bool) → Q (turning_piece look.pieces last)
  pub passing : (last : Bool) → Q (passing_piece look.pieces last)
  pub painted : (text : List ℕ) → Q text → Q (painted_text look.branch text)
  pub feed : Q (10 ∷ [])

-- Q holds of the own bytes at each address, with what is inserted into them
abbrev pub OfOwn : (List ℕ → Type 0) → Look → Shape → Type 0
OfOwn Q look x = (a : Address) → Q (with_inserted (continued_prefix look (passing_text look x a)) (own_at look x a))

-- the own bytes at an address below a shape that may be there
abbrev own_in : Look → Address → Option Shape → List ℕ
own_in look a o = unwrap_or (option_map (λ y. y.own [] look.leaf) (option_and_then (λ c. at kids c a) o)) []

module _ (Q : List ℕ → Type 0) (none : Q []) where
  -- own bytes below an item that may be there
  own_below : {X : Type 0} (look : Look) (shape : X → Shape) (a : Address) → ((x : X) → Q (own_at look (shape x) a)) → (o : Option X) → Q (own_in look a (option_map shape o))
  own_below look shape a h None = none
  own_below look shape a h (Some x) = h x

  -- own bytes at all addresses, for items over children of the same type
  pub own_of_kids : {X : Type 0} (look : Look) (shape : X → Shape) (below : X → List X) → ((x : X) → Q ((shape x).own [] look.leaf)) → ((x : X) → kids (shape x) ≡ map shape (below x))
      → (x : X) (a : Address) → Q (own_at look (shape x) a)
  own_of_kids look shape below own same x [] = own x
  own_of_kids look shape below own same x (i ∷ a) =
      subst (λ o. Q (own_in look a o)) (sym (ap (λ ks. slice_get ks i) (same x) ∙ slice_get-map shape (below x) i))
      (own_below look shape a (λ y. own_of_kids look shape below own same y a) (slice_get (below x) i))

module _ (Q : List ℕ → Type 0) (none : Q []) (both : (a b : List ℕ) → Q a → Q b → Q (a ++ b)) where
  -- texts that are joined
  joined : {X : Type 0} (f : X → List ℕ) → ((x : X) → Q (f x)) → (xs : List X) → Q (flat_map f xs)
  joined f h [] = none
  joined f h (x ∷ xs) = both (f x) (flat_map f xs) (h x) (joined f h xs)

  -- a text that is repeated
  repeated : (n : ℕ) (text : List ℕ) → Q text → Q (repeat n text)
  repeated zero text h = none
  repeated (suc n) text h = both text (repeat n text) h (repeated n text h)

  -- a piece
  piece : (n p : ℕ) (first middle end : List ℕ) → Q first → Q middle → Q end → Q (first ++ repeat n middle ++ repeat p end)
  piece n p first middle end f m e = both (first ++ repeat n middle) (repeat p end) (both first (repeat n middle) f (repeated n middle m)) (repeated p end e)

  -- a turning piece
  pub turning_of : (c : Characters) (indent padding : ℕ) → OfCharacters Q c → (last : Bool) → Q (turning_piece (pieces_from c indent padding) last)
  turning_of c indent padding h true = piece (indent - (1 + padding)) padding _ _ _ h.turn_right h.right h.empty
  turning_of c indent padding h false = piece (indent - (1 + padding)) padding _ _ _ h.down_and_right h.right h.empty

  -- a passing piece
  pub passing_of : (c : Characters) (indent padding : ℕ) → OfCharacters Q c → (last : Bool) → Q (passing_piece (pieces_from c indent padding) last)
  passing_of c indent padding h true = piece (indent - (1 + padding)) padding _ _ _ h.empty h.empty h.empty
  passing_of c indent padding h false = piece (indent - (1 + padding)) padding _ _ _ h.down h.empty h.empty

  -- a passing text
  pub passed_of : (look : Look) → OfLook Q look → (x : Shape) (a : Address) → Q (passing_text look x a)
  passed_of look h x a = joined (λ b. passing_piece look.pieces (is_last kids x b)) (λ b. h.passing (is_last kids x b)) (prefixes a)

  -- a prefix
  prefixed : (look : Look) → OfLook Q look → (x : Shape) (a : Address) → Q (prefix_text look x a)
  prefixed look h x [] = none
  prefixed look h x (i ∷ rest) = both (passing_text look x (parent (i ∷ rest))) _ (passed_of look h x (parent (i ∷ rest))) (h.turning (is_last kids x (i ∷ rest)))

  -- an entry
  entered : (look : Look) → OfLook Q look → (x : Shape) → OfOwn Q look x → (a : Address) → Q (entry_text look x a)
  entered look h x own a =
      let front = h.painted (prefix_text look x a) (prefixed look h x a) in
      both _ (10 ∷ []) (both (painted_text look.branch (prefix_text look x a)) _ front (own a)) h.feed

  -- a drawing
  pub drawing_of : (look : Look) → OfLook Q look → (x : Shape) → OfOwn Q look x → (depth : ℕ) (bytes : List ℕ) → IsDrawing look x depth bytes → Q bytes
  drawing_of look h x own depth bytes drawn = subst Q (sym drawn.2) (joined (entry_text look x) (entered look h x own) drawn.0)

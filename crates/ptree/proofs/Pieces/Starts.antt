-- Pieces that are readable because they begin with distinguishable texts.
use Rattle.std.proofs.Common.{◌≡◌, ◌≢◌, ℕ, zero, suc, ◌⊎◌, Bool, true, false, cond, ◌&&◌, List, [], ◌∷◌, ◌++◌, eqb, inl, inr, refl, ap}
use Rattle.std.specs.List.{repeat}
use Rattle.std.proofs.lemmas.Bool.{eqb-false, false≢true, and_parts}
use Rattle.std.proofs.lemmas.List.Elements.{All-nil, All-cons, All-append}
use Rattle.ptree.specs.Pieces.{Pieces, turning_piece, passing_piece}
use Rattle.ptree.specs.Readable.{ArePrefixFree, AreEqualOrPrefixFree, IsReadable}
use Rattle.ptree.specs.Texts.{HasNoLineFeed}

-- ## Tests that compute

-- the texts differ before either one ends
abbrev pub differ : List ℕ → List ℕ → Bool
differ [] b = false
differ (u ∷ a) [] = false
differ (u ∷ a) (v ∷ b) = cond (eqb u v) (differ a b) true

-- no byte is a line feed
abbrev pub one_line : List ℕ → Bool
one_line [] = true
one_line (b ∷ bs) = cond (eqb b 10) false (one_line bs)

-- texts that differ before either one ends are apart, whatever follows
pub apart_when_differ : (a b x y : List ℕ) → differ a b ≡ true → ArePrefixFree (a ++ x) (b ++ y)
apart_when_differ [] b x y h = absurd (false≢true h)
apart_when_differ (u ∷ a) [] x y h = absurd (false≢true h)
apart_when_differ (u ∷ a) (v ∷ b) x y h = at (apart_when_differ a b x y) (eqb u v) refl h where
  at : (differ a b ≡ true → ArePrefixFree (a ++ x) (b ++ y)) → (same : Bool) → eqb u v ≡ same → cond same (differ a b) true ≡ true → ArePrefixFree (u ∷ (a ++ x)) (v ∷ (b ++ y))
  at ih true e h' =
      let tails = ih h' in
      ((λ (rest, f). tails.0 (rest, let g = f in cc)), (λ (rest, f). tails.1 (rest, let g = f in cc)))
  at ih false e h' =
      let other = eqb-false u v e in
      ((λ (rest, f). other (let g = f in cc)), (λ (rest, f). other (let g = f in cc)))

-- a text that passes the test holds no line feed
pub no_line_feed_when : (bs : List ℕ) → one_line bs ≡ true → HasNoLineFeed bs
no_line_feed_when [] h = All-nil (λ b. b ≢ 10)
no_line_feed_when (b ∷ bs) h = at (no_line_feed_when bs) (eqb b 10) refl h where
  at : (one_line bs ≡ true → HasNoLineFeed bs) → (feed : Bool) → eqb b 10 ≡ feed → cond feed false (one_line bs) ≡ true → HasNoLineFeed (b ∷ bs)
  at ih true e h' = absurd (false≢true h')
  at ih false e h' = All-cons (λ c. c ≢ 10) b bs (eqb-false b 10 e) (ih h')

-- a repeated text without a line feed holds none
pub no_line_feed_repeat : (n : ℕ) (t : List ℕ) → HasNoLineFeed t → HasNoLineFeed (repeat n t)
no_line_feed_repeat zero t h = All-nil (λ b. b ≢ 10)
no_line_feed_repeat (suc n) t h = All-append (λ b. b ≢ 10) t (repeat n t) h (no_line_feed_repeat n t h)

-- ## Pieces whose first characters can be told apart

-- the starts of the four pieces
pub record Starts : Type 0 where
  pub regular : List ℕ
  pub child : List ℕ
  pub last_regular : List ℕ
  pub last_child : List ℕ

-- the starts with these texts
abbrev pub starts : List ℕ → List ℕ → List ℕ → List ℕ → Starts
starts r c lr lc = record { regular = r; child = c; last_regular = lr; last_child = lc }

-- pieces that continue with x after a turning prefix, and with y after a passing one
abbrev pub pieces_on : Starts → List ℕ → List ℕ → Pieces
pieces_on f x y = record { regular = f.regular ++ x; child = f.child ++ y; last_regular = f.last_regular ++ x; last_child = f.last_child ++ y }

-- the starts pass the tests for readable pieces
pub record AreTold (f : Starts) : Type 0 where
  pub turning_lines : (one_line f.regular && one_line f.last_regular) ≡ true
  pub passing_lines : (one_line f.child && one_line f.last_child) ≡ true
  pub regular : (differ f.regular f.child && differ f.regular f.last_child) ≡ true
  pub last_regular : (differ f.last_regular f.child && differ f.last_regular f.last_child) ≡ true
  pub turnings : (f.regular ≡ f.last_regular) ⊎ (differ f.regular f.last_regular ≡ true)
  pub passings : differ f.child f.last_child ≡ true

-- pieces with such starts are readable
pub readable_from_starts : (f : Starts) → AreTold f → (x y : List ℕ) → HasNoLineFeed x → HasNoLineFeed y → IsReadable (pieces_on f x y)
readable_from_starts f h x y hx hy = record {
  no_line_feed = lines;
  turning_passing = kinds;
  turnings = turnings h.turnings;
  passings = inr (apart_when_differ f.child f.last_child y y h.passings);
} where
  turning : (one_line f.regular ≡ true) × (one_line f.last_regular ≡ true)
  turning = and_parts (one_line f.regular) (one_line f.last_regular) h.turning_lines

  passing : (one_line f.child ≡ true) × (one_line f.last_child ≡ true)
  passing = and_parts (one_line f.child) (one_line f.last_child) h.passing_lines

  regular : (differ f.regular f.child ≡ true) × (differ f.regular f.last_child ≡ true)
  regular = and_parts (differ f.regular f.child) (differ f.regular f.last_child) h.regular

  last_regular : (differ f.last_regular f.child ≡ true) × (differ f.last_regular f.last_child ≡ true)
  last_regular = and_parts (differ f.last_regular f.child) (differ f.last_regular f.last_child) h.last_regular

  line : (a z : List ℕ) → one_line a ≡ true → HasNoLineFeed z → HasNoLineFeed (a ++ z)
  line a z e hz = All-append (λ b. b ≢ 10) a z (no_line_feed_when a e) hz

  lines : (last : Bool) → HasNoLineFeed (turning_piece (pieces_on f x y) last) × HasNoLineFeed (passing_piece (pieces_on f x y) last)
  lines false = (line f.regular x turning.0 hx, line f.child y passing.0 hy)
  lines true = (line f.last_regular x turning.1 hx, line f.last_child y passing.1 hy)

  kinds : (a b : Bool) → ArePrefixFree (turning_piece (pieces_on f x y) a) (passing_piece (pieces_on f x y) b)
  kinds false false = apart_when_differ f.regular f.child x y regular.0
  kinds false true = apart_when_differ f.regular f.last_child x y regular.1
  kinds true false = apart_when_differ f.last_regular f.child x y last_regular.0
  kinds true true = apart_when_differ f.last_regular f.last_child x y last_regular.1

  turnings : (f.regular ≡ f.last_regular) ⊎ (differ f.regular f.last_regular ≡ true) → AreEqualOrPrefixFree (f.regular ++ x) (f.last_regular ++ x)
  turnings (inl same) = inl (ap (λ z. z ++ x) same)
  turnings (inr e) = inr (apart_when_differ f.regular f.last_regular x x e)

-- The default marker with the shipped sets.
use Rattle.std.proofs.Common.{◌≡◌, ◌≢◌, ℕ, ◌+◌, ◌<◌, Bool, true, false, List, [], ◌∷◌, ◌++◌, inl, inr, refl, sym, subst, append_assoc, arith}
use Rattle.std.specs.Prelude.{◌↔◌, IsTrue}
use Rattle.std.proofs.lemmas.List.{append-nil}
use Rattle.std.proofs.lemmas.List.Elements.{All-nil, All-cons}
use Rattle.ptree.specs.Characters.{Characters, ascii_tick, IsShipped, IsShippedWithoutTicks}
use Rattle.ptree.specs.Config.{default_marker}
use Rattle.ptree.specs.Pieces.{turning_piece, passing_piece, pieces_from}
use Rattle.ptree.specs.Readable.{ArePrefixFree, IsReadable, IsReadableWith}
use Rattle.ptree.specs.Texts.{HasNoLineFeed}
use Rattle.ptree.proofs.Pieces.Starts.{differ, apart_when_differ}
use Rattle.ptree.proofs.Pieces.ShippedSets.{shipped_readable, tick_readable}

-- a marker that differs from the start of a text is apart from the text
marker_apart : (marker a y : List ℕ) → differ marker a ≡ true → ArePrefixFree marker (a ++ y)
marker_apart marker a y h = subst (λ z. ArePrefixFree z (a ++ y)) (append-nil marker) (apart_when_differ marker a [] y h)

-- a marker that differs from the first character of each piece is apart from each piece
record MarkerTold (marker : List ℕ) (c : Characters) : Type 0 where
  regular : differ marker c.down_and_right ≡ true
  child : differ marker c.down ≡ true
  last_regular : differ marker c.turn_right ≡ true
  last_child : differ marker c.empty ≡ true

-- a marker that can be told from a set's characters is apart from the pieces of the set
marker_told : (marker : List ℕ) (c : Characters) → MarkerTold marker c → (indent padding : ℕ) → (last : Bool) → ArePrefixFree marker (turning_piece (pieces_from c indent padding) last) × ArePrefixFree marker (passing_piece (pieces_from c indent padding) last)
marker_told marker c h indent padding false = (
  subst (λ z. ArePrefixFree marker z) (sym (append_assoc c.down_and_right _ _)) (marker_apart marker c.down_and_right _ h.regular),
  subst (λ z. ArePrefixFree marker z) (sym (append_assoc c.down _ _)) (marker_apart marker c.down _ h.child),
)
marker_told marker c h indent padding true = (
  subst (λ z. ArePrefixFree marker z) (sym (append_assoc c.turn_right _ _)) (marker_apart marker c.turn_right _ h.last_regular),
  subst (λ z. ArePrefixFree marker z) (sym (append_assoc c.empty _ _)) (marker_apart marker c.empty _ h.last_child),
)

-- the default marker holds no line feed
default_marker_line : HasNoLineFeed default_marker
default_marker_line = All-cons (λ b. b ≢ 10) 58 (32 ∷ []) (omega arith) (All-cons (λ b. b ≢ 10) 32 [] (omega arith) (All-nil (λ b. b ≢ 10)))

-- the default marker is apart from the pieces of each shipped set
pub default_marker_apart : (c : Characters) → IsShipped c → (indent padding : ℕ) → (last : Bool) → ArePrefixFree default_marker (turning_piece (pieces_from c indent padding) last) × ArePrefixFree default_marker (passing_piece (pieces_from c indent padding) last)
default_marker_apart c which i p = marker_told default_marker c (at which) i p where
  at : IsShipped c → MarkerTold default_marker c
  at (inl e) = subst (MarkerTold default_marker) (sym e) (record { regular = refl; child = refl; last_regular = refl; last_child = refl })
  at (inr (inl e)) = subst (MarkerTold default_marker) (sym e) (record { regular = refl; child = refl; last_regular = refl; last_child = refl })
  at (inr (inr (inl e))) = subst (MarkerTold default_marker) (sym e) (record { regular = refl; child = refl; last_regular = refl; last_child = refl })
  at (inr (inr (inr (inl e)))) = subst (MarkerTold default_marker) (sym e) (record { regular = refl; child = refl; last_regular = refl; last_child = refl })
  at (inr (inr (inr (inr (inl e))))) = subst (MarkerTold default_marker) (sym e) (record { regular = refl; child = refl; last_regular = refl; last_child = refl })
  at (inr (inr (inr (inr (inr e))))) = subst (MarkerTold default_marker) (sym e) (record { regular = refl; child = refl; last_regular = refl; last_child = refl })

-- readable pieces of a shipped set are readable with the default marker too
pub default_marker_readable : (c : Characters) → IsShipped c → (indent padding : ℕ) → IsReadable (pieces_from c indent padding) → IsReadableWith (pieces_from c indent padding) default_marker
default_marker_readable c which i p h = record { pieces = h; no_line_feed = default_marker_line; apart = default_marker_apart c which i p }

-- a test of pieces and the default marker is true exactly when the pieces are readable
pub marker_test : (c : Characters) (indent padding : ℕ) (marker : List ℕ) (test : Bool) → marker ≡ default_marker → IsShipped c
    → IsTrue test ↔ IsReadableWith (pieces_from c indent padding) marker → IsTrue test ↔ IsReadable (pieces_from c indent padding)
marker_test c indent padding marker test e set h = (
  λ yes. (h.0 yes).pieces,
  λ r. h.1 (subst (λ m. IsReadableWith (pieces_from c indent padding) m) (sym e) (default_marker_readable c set indent padding r)),
)

-- the test is true for each set without ticks, at every indent and padding
pub shipped_test : (c : Characters) (indent padding : ℕ) (marker : List ℕ) (test : Bool) → marker ≡ default_marker → IsShippedWithoutTicks c
    → IsTrue test ↔ IsReadableWith (pieces_from c indent padding) marker → IsTrue test
shipped_test c indent padding marker test e set h = (marker_test c indent padding marker test e (inr set) h).1 (shipped_readable c set indent padding)

-- for the set with ticks the test is true exactly when a dash is drawn
pub tick_test : (c : Characters) (indent padding : ℕ) (marker : List ℕ) (test : Bool) → marker ≡ default_marker → c ≡ ascii_tick
    → IsTrue test ↔ IsReadableWith (pieces_from c indent padding) marker → IsTrue test ↔ (1 + padding < indent)
tick_test c indent padding marker test e tick h =
    let exact = tick_readable indent padding in
    let at = subst (λ (s : Characters). IsTrue test ↔ IsReadable (pieces_from s indent padding)) tick (marker_test c indent padding marker test e (inl tick) h) in
    (λ yes. exact.0 (at.0 yes), λ l. at.1 (exact.1 l))

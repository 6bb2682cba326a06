-- Which of the shipped sets are readable.
use Rattle.std.proofs.Common.{◌≡◌, ◌≢◌, ℕ, suc, ◌+◌, ◌-◌, ◌<◌, ◌≤◌, true, false, List, [], ◌∷◌, ◌++◌, inl, inr, refl, sym, ap, ◌∙◌, subst, append_assoc, arith}
use Rattle.std.specs.List.{repeat}
use Rattle.std.specs.Prelude.{◌↔◌}
use Rattle.std.proofs.lemmas.Bool.{cases_lt}
use Rattle.std.proofs.lemmas.List.{append-nil}
use Rattle.std.proofs.lemmas.List.Elements.{All-append}
use Rattle.ptree.specs.Characters.{Characters, ascii_tick, ascii_plus, utf, utf_double, utf_bold, utf_dashed, IsShippedWithoutTicks}
use Rattle.ptree.specs.Pieces.{pieces_from}
use Rattle.ptree.specs.Readable.{ArePrefixFree, IsReadable}
use Rattle.ptree.specs.Texts.{HasNoLineFeed}
use Rattle.ptree.proofs.Pieces.Starts.{one_line, no_line_feed_when, no_line_feed_repeat, starts, pieces_on, AreTold, readable_from_starts}

-- ## The shipped sets

-- what follows the first character of a piece
tail : (n padding : ℕ) (m e : List ℕ) → one_line m ≡ true → one_line e ≡ true → HasNoLineFeed (repeat n m ++ repeat padding e)
tail n padding m e h g =
    All-append (λ b. b ≢ 10) (repeat n m) (repeat padding e) (no_line_feed_repeat n m (no_line_feed_when m h)) (no_line_feed_repeat padding e (no_line_feed_when e g))

-- the pieces of a set, each by its first characters and the rest
pieces_from-split : (c : Characters) (indent padding : ℕ) → let n = indent - (1 + padding) in
    pieces_from c indent padding ≡ pieces_on (starts c.down_and_right c.down c.turn_right c.empty) (repeat n c.right ++ repeat padding c.empty) (repeat n c.empty ++ repeat padding c.empty)
pieces_from-split c indent padding = simp append_assoc

-- a set whose first characters can be told apart is readable at every indent and padding
set_readable : (c : Characters) → AreTold (starts c.down_and_right c.down c.turn_right c.empty) → one_line c.right ≡ true → one_line c.empty ≡ true → (indent padding : ℕ) → IsReadable (pieces_from c indent padding)
set_readable c told right empty indent padding =
    let n = indent - (1 + padding) in
    subst IsReadable (sym (pieces_from-split c indent padding))
    (readable_from_starts (starts c.down_and_right c.down c.turn_right c.empty) told _ _ (tail n padding c.right c.empty right empty) (tail n padding c.empty c.empty empty empty))

-- a shipped set other than the one with ticks is readable at every indent and padding
pub shipped_readable : (c : Characters) → IsShippedWithoutTicks c → (indent padding : ℕ) → IsReadable (pieces_from c indent padding)
shipped_readable c (inl e) i p = subst (λ (s : Characters). IsReadable (pieces_from s i p)) (sym e)
    (set_readable ascii_plus (record { turning_lines = refl; passing_lines = refl; regular = refl; last_regular = refl; turnings = inl refl; passings = refl }) refl refl i p)
shipped_readable c (inr (inl e)) i p = subst (λ (s : Characters). IsReadable (pieces_from s i p)) (sym e)
    (set_readable utf (record { turning_lines = refl; passing_lines = refl; regular = refl; last_regular = refl; turnings = inr refl; passings = refl }) refl refl i p)
shipped_readable c (inr (inr (inl e))) i p = subst (λ (s : Characters). IsReadable (pieces_from s i p)) (sym e)
    (set_readable utf_double (record { turning_lines = refl; passing_lines = refl; regular = refl; last_regular = refl; turnings = inr refl; passings = refl }) refl refl i p)
shipped_readable c (inr (inr (inr (inl e)))) i p = subst (λ (s : Characters). IsReadable (pieces_from s i p)) (sym e)
    (set_readable utf_bold (record { turning_lines = refl; passing_lines = refl; regular = refl; last_regular = refl; turnings = inr refl; passings = refl }) refl refl i p)
shipped_readable c (inr (inr (inr (inr e)))) i p = subst (λ (s : Characters). IsReadable (pieces_from s i p)) (sym e)
    (set_readable utf_dashed (record { turning_lines = refl; passing_lines = refl; regular = refl; last_regular = refl; turnings = inr refl; passings = refl }) refl refl i p)

-- ## The set with ticks

-- if a character is drawn between the first one and the padding, the first two characters of the
-- pieces differ
tick_apart : (n padding : ℕ) → (indent : ℕ) → indent - (1 + padding) ≡ suc n → IsReadable (pieces_from ascii_tick indent padding)
tick_apart n padding indent e =
    let told : AreTold (starts (124 ∷ 45 ∷ []) (124 ∷ 32 ∷ []) (96 ∷ 45 ∷ []) (32 ∷ 32 ∷ [])) =
    record { turning_lines = refl; passing_lines = refl; regular = refl; last_regular = refl; turnings = inr refl; passings = refl } in
    let with_one : pieces_from ascii_tick indent padding
    ≡ pieces_on (starts (124 ∷ 45 ∷ []) (124 ∷ 32 ∷ []) (96 ∷ 45 ∷ []) (32 ∷ 32 ∷ [])) (repeat n (45 ∷ []) ++ repeat padding (32 ∷ [])) (repeat n (32 ∷ []) ++ repeat padding (32 ∷ [])) =
    pieces_from-split ascii_tick indent padding
    ∙ ap (λ m. pieces_on (starts (124 ∷ []) (124 ∷ []) (96 ∷ []) (32 ∷ [])) (repeat m (45 ∷ []) ++ repeat padding (32 ∷ [])) (repeat m (32 ∷ []) ++ repeat padding (32 ∷ []))) e in
    subst IsReadable (sym with_one)
    (readable_from_starts (starts (124 ∷ 45 ∷ []) (124 ∷ 32 ∷ []) (96 ∷ 45 ∷ []) (32 ∷ 32 ∷ [])) told _ _ (tail n padding (45 ∷ []) (32 ∷ []) refl refl) (tail n padding (32 ∷ []) (32 ∷ []) refl refl))

-- without a character between, the first piece of each kind is the same text
tick_same : (indent padding : ℕ) → indent ≤ 1 + padding → (pieces_from ascii_tick indent padding).regular ≡ (pieces_from ascii_tick indent padding).child
tick_same indent padding h =
    let none : indent - (1 + padding) ≡ 0 = omega arith in
    ap (λ m. 124 ∷ (repeat m (45 ∷ []) ++ repeat padding (32 ∷ []))) none ∙ ap (λ m. 124 ∷ (repeat m (32 ∷ []) ++ repeat padding (32 ∷ []))) (sym none)

-- two equal texts are not apart
same_not_apart : (a b : List ℕ) → a ≡ b → ArePrefixFree a b → ⊥
same_not_apart a b e h = h.0 ([], sym (append-nil a ∙ e))

-- the set with ticks is readable exactly when a dash is drawn
pub tick_readable : (indent padding : ℕ) → IsReadable (pieces_from ascii_tick indent padding) ↔ (1 + padding < indent)
tick_readable indent padding = (
  λ r. elim (cases_lt (1 + padding) indent) [
    | inl l ↦ l
    | inr l ↦ absurd (same_not_apart _ _ (tick_same indent padding l) (r.turning_passing false false))
  ],
  λ l. tick_apart (indent - (1 + padding) - 1) padding indent (omega arith),
)

-- if the set with ticks is not readable, the first piece of each kind is the same text
pub tick_same_pieces : (c : Characters) (indent padding : ℕ) → c ≡ ascii_tick → (IsReadable (pieces_from c indent padding) → ⊥)
    → (pieces_from c indent padding).regular ≡ (pieces_from c indent padding).child
tick_same_pieces c indent padding e unreadable =
    subst (λ (s : Characters). (pieces_from s indent padding).regular ≡ (pieces_from s indent padding).child) (sym e)
    (elim (cases_lt (1 + padding) indent) [
      | inl l ↦ absurd (unreadable (subst (λ (s : Characters). IsReadable (pieces_from s indent padding)) (sym e) ((tick_readable indent padding).1 l)))
      | inr l ↦ tick_same indent padding l
    ])

-- the piece of a last child in the set with ticks holds no line feed
pub tick_one_line : (c : Characters) (indent padding : ℕ) → c ≡ ascii_tick → HasNoLineFeed (pieces_from c indent padding).last_regular
tick_one_line c indent padding e =
    subst (λ (s : Characters). HasNoLineFeed (pieces_from s indent padding).last_regular) (sym e)
    (let n : ℕ = indent - (1 + padding) in
    All-append (λ b. b ≢ 10) (96 ∷ [] ++ repeat n (45 ∷ [])) (repeat padding (32 ∷ []))
    (All-append (λ b. b ≢ 10) (96 ∷ []) (repeat n (45 ∷ [])) (no_line_feed_when (96 ∷ []) refl) (no_line_feed_repeat n (45 ∷ []) (no_line_feed_when (45 ∷ []) refl)))
    (no_line_feed_repeat padding (32 ∷ []) (no_line_feed_when (32 ∷ []) refl)))

-- Texts inserted after line feeds.
use Rattle.std.proofs.Common.{◌≡◌, ◌≢◌, ℕ, ◌<◌, ◌≤◌, ◌+◌, length, length-append, length-drop, drop, arith, get_or, ◌⊎◌, inl, inr, Bool, true, false, cond, eqb, List, [], ◌∷◌, ◌++◌, refl, sym, ap, ◌∙◌}
use Rattle.std.proofs.lemmas.Bool.{eq-eqb, ne_eqb, eqb-true, eqb-false, false≢true}
use Rattle.std.proofs.lemmas.Grind.{flat_map-append}
use Rattle.std.proofs.lemmas.List.{get_or_default, get_or-drop}
use Rattle.std.proofs.lemmas.List.Elements.{All-nil, All-cons, All-head, All-tail}
use Rattle.ptree.specs.Drawing.{Look, with_inserted, entry_from}
use Rattle.ptree.specs.Spelled.{has_line_feed}
use Rattle.ptree.specs.Style.{StyleValue, start_codes, end_codes, painted_text}
use Rattle.ptree.specs.Texts.{HasNoLineFeed}
use Rattle.ptree.proofs.Styles.PaintedTexts.{no_line_feed_start, no_line_feed_end}

-- a byte is a line feed or not
pub is_feed : (b : ℕ) → (b ≡ 10) ⊎ (b ≢ 10)
is_feed b = at (eqb b 10) refl where
  at : (same : Bool) → eqb b 10 ≡ same → (b ≡ 10) ⊎ (b ≢ 10)
  at true e = inl (eqb-true b 10 e)
  at false e = inr (eqb-false b 10 e)

-- a line feed at the start is followed by the inserted text
pub inserted_feed : (inserted : List ℕ) (b : ℕ) (text : List ℕ) → b ≡ 10 → with_inserted inserted (b ∷ text) ≡ 10 ∷ (inserted ++ with_inserted inserted text)
inserted_feed inserted b text e = ap (λ c. cond c (10 ∷ inserted) (b ∷ []) ++ with_inserted inserted text) (eq-eqb b 10 e)

-- another byte at the start is followed by nothing
pub inserted_other : (inserted : List ℕ) (b : ℕ) (text : List ℕ) → b ≢ 10 → with_inserted inserted (b ∷ text) ≡ b ∷ with_inserted inserted text
inserted_other inserted b text n = ap (λ c. cond c (10 ∷ inserted) (b ∷ []) ++ with_inserted inserted text) (ne_eqb b 10 n)

-- insertion into a joined text is insertion into its parts
pub inserted-append : (inserted a b : List ℕ) → with_inserted inserted (a ++ b) ≡ with_inserted inserted a ++ with_inserted inserted b
inserted-append inserted a b = flat_map-append (λ c. cond (eqb c 10) (10 ∷ inserted) (c ∷ [])) a b

-- nothing is inserted into a text of one line
pub inserted_none : (inserted text : List ℕ) → HasNoLineFeed text → with_inserted inserted text ≡ text
inserted_none inserted [] h = refl
inserted_none inserted (b ∷ text) h =
    inserted_other inserted b text (All-head (λ c. c ≢ 10) b text h) ∙ ap (λ z. b ∷ z) (inserted_none inserted text (All-tail (λ c. c ≢ 10) b text h))

-- what follows the first line of a text is behind its line feed and the inserted text
pub inserted_line : (inserted own rest : List ℕ) → HasNoLineFeed own → with_inserted inserted (own ++ 10 ∷ rest) ≡ own ++ 10 ∷ (inserted ++ with_inserted inserted rest)
inserted_line inserted own rest h =
    inserted-append inserted own (10 ∷ rest) ∙ (ap (λ z. z ++ with_inserted inserted (10 ∷ rest)) (inserted_none inserted own h)
    ∙ ap (λ z. own ++ z) (inserted_feed inserted 10 rest refl))

-- own bytes without a line feed are unchanged in their entry
pub entry_of_one_line : (look : Look) (prefix passing own : List ℕ) → HasNoLineFeed own → entry_from look prefix passing own ≡ painted_text look.branch prefix ++ own ++ 10 ∷ []
entry_of_one_line look prefix passing own h = ap (λ z. painted_text look.branch prefix ++ z ++ 10 ∷ []) (inserted_none _ own h)

-- a line feed at the start counts
pub feed_here : (b : ℕ) (bs : List ℕ) → b ≡ 10 → has_line_feed (b ∷ bs) ≡ true
feed_here b bs e = ap (λ c. cond c true (has_line_feed bs)) (eq-eqb b 10 e)

-- a byte other than a line feed does not count
pub feed_tail : (b : ℕ) (bs : List ℕ) → b ≢ 10 → has_line_feed (b ∷ bs) ≡ has_line_feed bs
feed_tail b bs n = ap (λ c. cond c true (has_line_feed bs)) (ne_eqb b 10 n)

-- a line feed further on counts
pub feed_behind : (b : ℕ) (bs : List ℕ) → has_line_feed bs ≡ true → has_line_feed (b ∷ bs) ≡ true
feed_behind b bs h = elim (is_feed b) [ inl e ↦ feed_here b bs e | inr n ↦ feed_tail b bs n ∙ h ]

-- a text without a line feed fails the test
pub no_feed : (bs : List ℕ) → HasNoLineFeed bs → has_line_feed bs ≡ false
no_feed [] h = refl
no_feed (b ∷ bs) h = feed_tail b bs (All-head (λ c. c ≢ 10) b bs h) ∙ no_feed bs (All-tail (λ c. c ≢ 10) b bs h)

-- a text that fails the test holds no line feed
pub no_feed_when : (bs : List ℕ) → has_line_feed bs ≡ false → HasNoLineFeed bs
no_feed_when [] h = All-nil (λ b. b ≢ 10)
no_feed_when (b ∷ bs) h = elim (is_feed b) [
  | inl e ↦ absurd (false≢true (sym h ∙ feed_here b bs e))
  | inr n ↦ All-cons (λ c. c ≢ 10) b bs n (no_feed_when bs (sym (feed_tail b bs n) ∙ h))
]

-- a text without a line feed at the start does not count
pub feed_start : (a b : List ℕ) → HasNoLineFeed a → has_line_feed (a ++ b) ≡ has_line_feed b
feed_start [] b h = refl
feed_start (x ∷ a) b h = feed_tail x (a ++ b) (All-head (λ c. c ≢ 10) x a h) ∙ feed_start a b (All-tail (λ c. c ≢ 10) x a h)

-- a text without a line feed at the end does not count
pub feed_end : (a b : List ℕ) → HasNoLineFeed b → has_line_feed (a ++ b) ≡ has_line_feed a
feed_end [] b h = no_feed b h
feed_end (x ∷ a) b h = ap (λ z. cond (eqb x 10) true z) (feed_end a b h)

-- codes hold no line feed
pub feed_painted : (style : StyleValue) (text : List ℕ) → has_line_feed (painted_text style text) ≡ has_line_feed text
feed_painted style text =
    feed_end (start_codes style ++ text) (end_codes style) (no_line_feed_end style) ∙ feed_start (start_codes style) text (no_line_feed_start style)

-- a fact about reads with a default holds for each read
pub no_line_feed_from_reads : (xs : List ℕ) → ((i : ℕ) → i < length xs → get_or xs i 0 ≢ 10) → HasNoLineFeed xs
no_line_feed_from_reads xs h k d l e = h k l (sym (get_or_default xs k d 0 l) ∙ e)

-- no byte after the first ones is a line feed
pub no_line_feed_behind : (xs : List ℕ) (start : ℕ) → ((k : ℕ) → start ≤ k → k < length xs → get_or xs k 0 ≢ 10) → HasNoLineFeed (drop start xs)
no_line_feed_behind xs start h = no_line_feed_from_reads (drop start xs) (λ k low e.
    h (start + k) (omega arith) (omega (arith, length-drop start xs)) (sym (get_or-drop start xs k 0) ∙ e))

-- a text that holds a line feed is not empty
pub feed_not_empty : (a b : List ℕ) → [] ≡ a ++ 10 ∷ b → ⊥
feed_not_empty a b e = let long = ap length e in omega (arith, simp length-append at long)

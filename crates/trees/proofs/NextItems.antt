-- The item with which a drawing goes on after whole lines, and what their last line shows of the one
-- before it.
use Rattle.trees.proofs.Common.{◌≡◌, ◌≢◌, ℕ, suc, ◌<◌, ◌≤◌, ◌⊎◌, inl, inr, List, [], ◌∷◌, ◌++◌, refl, sym, ap, ◌∙◌, subst, append_assoc, All-append, IsReadableWith, start_codes, end_codes, HasNoLineFeed}
use Rattle.ptree.specs.Drawing.{Look, with_inserted, continued_prefix}
use Rattle.ptree.specs.Flags.{last_flags, pieces_by, passing_by}
use Rattle.ptree.specs.Outline.{Line, Steps}
use Rattle.ptree.specs.Reached.{lines_text, own_prefix}
use Rattle.ptree.specs.Spelled.{IsNotContinued}
use Rattle.ptree.proofs.Reading.LineEnds.{no_feed_pieces, no_feed_painted, no_feed_continued}
use Rattle.ptree.proofs.Reading.NextLines.{line_split}
use Rattle.ptree.proofs.Reading.OwnBytes.{holds_line_feed}
use Rattle.ptree.proofs.Reading.SpelledForms.{passing_at}
use Rattle.ptree.proofs.Styles.PaintedTexts.{no_line_feed_start}
use Rattle.ptree.proofs.Drawing.Inserted.{feed_not_empty}
use Rattle.trees.specs.Expected.{IsLastLine}
use Rattle.trees.proofs.LineCuts.{cut_either, last_once, behind_feed, EndsLine, last_inserted}

-- ## The drawing of an item

-- the text of an item's further lines before its own
abbrev pub further : Look → Line → List Line → List ℕ
further k l below = continued_prefix k (passing_by k.pieces below l.level)

-- the bytes before an item's text
abbrev pub before : Look → Line → List Line → List ℕ
before k l below = own_prefix k (pieces_by k.pieces below l.level)

-- the drawing of an item without its last line feed
abbrev pub item_text : Look → Line → List Line → List ℕ
item_text k l below = before k l below ++ with_inserted (further k l below) (l.text ++ end_codes k.leaf)

-- the drawing of an item and of those below it, cut there
item_split : (k : Look) (l : Line) (below : List Line) → lines_text k (l ∷ below) ≡ item_text k l below ++ 10 ∷ lines_text k below
item_split k l below = line_split k l below ∙ sym (append_assoc (before k l below) (with_inserted (further k l below) (l.text ++ end_codes k.leaf)) (10 ∷ lines_text k below))

-- no line feed is before an item's text, nor before a further line
before_feedless : (k : Look) → IsReadableWith k.pieces k.marker → (l : Line) (below : List Line) → HasNoLineFeed (before k l below)
before_feedless k r l below = All-append (λ c. c ≢ 10) _ (start_codes k.leaf) (no_feed_painted k.branch (pieces_by k.pieces below l.level) (no_feed_pieces k.pieces r.pieces below l.level)) (no_line_feed_start k.leaf)

further_feedless : (k : Look) → IsReadableWith k.pieces k.marker → (l : Line) (below : List Line) → HasNoLineFeed (further k l below)
further_feedless k r l below = no_feed_continued k r (last_flags below l.level)

-- ## The next item

-- what is drawn after whole lines begins no further line
abbrev pub ContinuesNone : Look → List ℕ → Type 0
ContinuesNone k b = (n : ℕ) → IsNotContinued k n b

-- whole lines end with an item or after it
item_passed : (k : Look) → IsReadableWith k.pieces k.marker → (a b : List ℕ) → ContinuesNone k b → (l : Line) (o : List Line) → a ++ 10 ∷ b ≡ lines_text k (l ∷ o)
    → ((a ≡ item_text k l o) × (b ≡ lines_text k o)) ⊎ ((z : List ℕ) × (a ≡ item_text k l o ++ 10 ∷ z) × (lines_text k o ≡ z ++ 10 ∷ b))
item_passed k r a b stop l o e = elim (cut_either a b (item_text k l o) (lines_text k o) (e ∙ item_split k l o)) [
  | inl c ↦
      let (v, begins) = behind_feed (further k l o) (before k l o) (l.text ++ end_codes k.leaf) a c.0 (further_feedless k r l o) (before_feedless k r l o) c.1 in
      absurd (stop l.level (passing_by k.pieces o l.level) (v ++ 10 ∷ lines_text k o) (passing_at k.pieces o l.level)
      (c.2 ∙ (ap (λ y. y ++ 10 ∷ lines_text k o) begins ∙ append_assoc (further k l o) v (10 ∷ lines_text k o))))
  | inr s ↦ s
]

-- whole lines end with an item, the first one or one below it, and another one follows
pub record GoesOnAt (k : Look) (first : Line) (a b : List ℕ) : Type 0 where
  pub item : Line
  pub next : Line
  pub after : List Line
  pub low : 0 < next.level
  pub high : next.level ≤ suc item.level
  pub rest_is : b ≡ lines_text k (next ∷ after)
  pub drawn : ((a ≡ item_text k item (next ∷ after)) × (item.level ≡ first.level)) ⊎ ((x : List ℕ) × (a ≡ x ++ 10 ∷ item_text k item (next ∷ after)) × (0 < item.level))

-- so whole lines of a drawing do
pub next_item : (k : Look) → IsReadableWith k.pieces k.marker → (a b : List ℕ) → ContinuesNone k b → b ≢ [] → (l : Line) (o : List Line) → Steps l.level o → a ++ 10 ∷ b ≡ lines_text k (l ∷ o) → GoesOnAt k l a b
next_item k r a b stop some l [] steps e = elim (item_passed k r a b stop l [] e) [
  | inl c ↦ absurd (some c.1)
  | inr c ↦ absurd (feed_not_empty c.0 b c.2)
]
next_item k r a b stop some l (m ∷ o) steps e = elim (item_passed k r a b stop l (m ∷ o) e) [
  | inl c ↦ record { item = l; next = m; after = o; low = steps.0; high = steps.1; rest_is = c.1; drawn = inl (c.0, refl) }
  | inr c ↦
      let g = next_item k r c.0 b stop some m o steps.2 (sym c.2) in
      let text : List ℕ = item_text k g.item (g.next ∷ g.after) in
      record {
        item = g.item;
        next = g.next;
        after = g.after;
        low = g.low;
        high = g.high;
        rest_is = g.rest_is;
        drawn = inr (elim g.drawn [
          | inl d ↦ (item_text k l (m ∷ o), c.1 ∙ ap (λ y. item_text k l (m ∷ o) ++ 10 ∷ y) d.0, subst (λ n. 0 < n) (sym d.1) steps.0)
          | inr d ↦ (
            item_text k l (m ∷ o) ++ 10 ∷ d.0,
            c.1 ∙ (ap (λ y. item_text k l (m ∷ o) ++ 10 ∷ y) d.1 ∙ sym (append_assoc (item_text k l (m ∷ o)) (10 ∷ d.0) (10 ∷ text))),
            d.2,
          )
        ]);
      }
]

-- ## The last line

-- what the last line shows of an item: nothing of a root on one line, else its pieces, or its passing
-- pieces and the marker
abbrev pub ShowsItem : Look → Line → List Line → List ℕ → Type 0
ShowsItem k item below line =
    ((item.level ≡ 0) × (line ≡ []))
    ⊎ (((v : List ℕ) × (0 < item.level) × (line ≡ before k item below ++ v)) ⊎ ((v : List ℕ) × (line ≡ further k item below ++ v)))

-- the last of whole lines shows the item with which they end
pub last_shows : (k : Look) → IsReadableWith k.pieces k.marker → (first : Line) (a b line : List ℕ) → first.level ≡ 0 → IsLastLine a line → (g : GoesOnAt k first a b) → ShowsItem k g.item (g.next ∷ g.after) line
last_shows k r first a b line root last g = elim g.drawn [
  | inl d ↦ elim ends [
    | inl one ↦ elim last [
      | inl l ↦ inl (d.1 ∙ root, l.1)
      | inr l ↦ absurd (holds_line_feed l.0 line (subst HasNoLineFeed (sym d.0 ∙ l.1) one.0))
    ]
    | inr f ↦ elim last [
      | inl l ↦ absurd (holds_line_feed f.0 (cp ++ f.1) (subst HasNoLineFeed (d.0 ∙ f.2) l.0))
      | inr l ↦ inr (inr (f.1, last_once l.0 f.0 line (cp ++ f.1) l.2 f.3 (sym l.1 ∙ (d.0 ∙ f.2))))
    ]
  ]
  | inr d ↦ elim last [
    | inl l ↦ absurd (holds_line_feed d.0 text (subst HasNoLineFeed d.1 l.0))
    | inr l ↦ elim ends [
      | inl one ↦ inr (inl (w, d.2, last_once l.0 d.0 line text l.2 one.0 (sym l.1 ∙ d.1) ∙ one.1))
      | inr f ↦
          inr (inr (
            f.1,
            last_once l.0 (d.0 ++ 10 ∷ f.0) line (cp ++ f.1) l.2 f.3 (sym l.1 ∙ (d.1 ∙ (ap (λ y. d.0 ++ 10 ∷ y) f.2 ∙ sym (append_assoc d.0 (10 ∷ f.0) (10 ∷ (cp ++ f.1)))))),
          ))
    ]
  ]
] where
  below : List Line
  below = g.next ∷ g.after

  cp : List ℕ
  cp = further k g.item below

  w : List ℕ
  w = g.item.text ++ end_codes k.leaf

  text : List ℕ
  text = item_text k g.item below

  ends : EndsLine cp (before k g.item below) w text
  ends = last_inserted cp (before k g.item below) w (further_feedless k r g.item below) (before_feedless k r g.item below)

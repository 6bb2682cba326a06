-- The line behind whole lines: an item's own one, a further one, or one with which no drawing goes on.
use Rattle.std.proofs.Common.{◌≡◌, ◌≢◌, ℕ, zero, suc, inl, inr, List, [], ◌∷◌, ◌++◌, length, refl, sym, ap, ◌∙◌, subst, append_assoc, arith}
use Rattle.std.proofs.lemmas.List.Elements.{All-append}
use Rattle.ptree.specs.declared.read.lines.Flags.{Flags}
use Rattle.ptree.specs.Drawing.{Look, continued_prefix}
use Rattle.ptree.specs.Flags.{passing_by}
use Rattle.ptree.specs.OpenDrawing.{NoneNext}
use Rattle.ptree.specs.Outline.{Line, line}
use Rattle.ptree.specs.Pieces.{turning_piece, passing_all}
use Rattle.ptree.specs.Reached.{own_prefix, Reached, ArePath, IsFurtherLine, IsOwnLine, NoLine}
use Rattle.ptree.specs.Readable.{IsReadableWith}
use Rattle.ptree.specs.Spelled.{ArePiecesAt, ArePassing}
use Rattle.ptree.specs.Style.{start_codes, end_codes, painted_text}
use Rattle.ptree.specs.Texts.{HasNoLineFeed}
use Rattle.ptree.proofs.Reading.LineEnds.{no_feed_passing, no_feed_painted, no_feed_continued}
use Rattle.ptree.proofs.Reading.OpenItems.{open_lines}
use Rattle.ptree.proofs.Reading.ReachedLines.{further_reached, own_reached, own_is_not_further}
use Rattle.ptree.proofs.Reading.ReachedEnds.{wrong_line, feedless_ends_no_line}
use Rattle.ptree.proofs.Reading.SpelledForms.{passing_at}
use Rattle.ptree.proofs.Styles.PaintedTexts.{no_line_feed_start}

-- what is before an item's own text holds no line feed
feedless_own : (k : Look) → IsReadableWith k.pieces k.marker → (n : ℕ) (pieces : List ℕ) → ArePiecesAt k.pieces n pieces → HasNoLineFeed (own_prefix k pieces)
feedless_own k readable zero pieces at = absurd at
feedless_own k readable (suc n) pieces (above, last, len, is) =
    All-append (λ c. c ≢ 10) (painted_text k.branch pieces) (start_codes k.leaf)
    (no_feed_painted k.branch pieces (subst HasNoLineFeed (sym is) (All-append (λ c. c ≢ 10) (passing_all k.pieces above) (turning_piece k.pieces last) (no_feed_passing k.pieces readable.pieces above) (readable.pieces.no_line_feed last).0)))
    (no_line_feed_start k.leaf)

-- two texts before a line feed, regrouped
pub one_feed : (a b more : List ℕ) → a ++ (b ++ 10 ∷ more) ≡ (a ++ b) ++ 10 ∷ more
one_feed a b more = sym (append_assoc a b (10 ∷ more))

-- a line feed after a prefix and two texts, regrouped
prefix_feed : (f a b : List ℕ) → (f ++ (a ++ b)) ++ 10 ∷ [] ≡ f ++ (a ++ b ++ 10 ∷ [])
prefix_feed f a b = append_assoc f (a ++ b) (10 ∷ [])

-- a further line has one line feed, before the rest
pub further_line : (k : Look) → IsReadableWith k.pieces k.marker → (fs fs' : List Flags) (rest new more : List ℕ) (f : IsFurtherLine k fs rest new more fs')
    → HasNoLineFeed (continued_prefix k f.passing ++ new) × (rest ≡ (continued_prefix k f.passing ++ new) ++ 10 ∷ more)
further_line k readable fs fs' rest new more f =
    let (above, len, is) = f.are_passing in
    let cp : List ℕ = continued_prefix k f.passing in
    (All-append (λ c. c ≢ 10) cp new (subst (λ z. HasNoLineFeed (continued_prefix k z)) (sym is) (no_feed_continued k readable above)) f.one, f.text_is ∙ one_feed cp new more)

-- so does an item's own line
pub own_line : (k : Look) → IsReadableWith k.pieces k.marker → (depth : ℕ) (fs fs' : List Flags) (rest new more : List ℕ) (f : IsOwnLine k depth fs rest new more fs')
    → HasNoLineFeed (own_prefix k f.pieces ++ new) × (rest ≡ (own_prefix k f.pieces ++ new) ++ 10 ∷ more)
own_line k readable depth fs fs' rest new more f =
    let prefix : List ℕ = own_prefix k f.pieces in
    (All-append (λ c. c ≢ 10) prefix new (feedless_own k readable (length fs') f.pieces f.are_pieces) f.one, f.text_is ∙ one_feed prefix new more)

module _ {k : Look} {depth : ℕ} {before rest own : List ℕ} {done : List Line} {level : ℕ} {fs : List Flags} (h : Reached k depth before done level own fs) where
  -- what is known after a further line
  pub after_further : {new more shown : List ℕ} {m : ℕ} {fs' : List Flags} → IsReadableWith k.pieces k.marker → (f : IsFurtherLine k fs rest new more fs') → ArePath k.pieces fs' m shown
      → Reached k depth (before ++ (continued_prefix k f.passing ++ new) ++ 10 ∷ []) done level (own ++ 10 ∷ new) fs'
  after_further {new} {more} {shown} {m} {fs'} readable f path =
      let passing = f.passing in
      let level_is : length fs ≡ level = h.count in
      let reached = further_reached k readable depth before done level own new passing fs fs' h f.one (subst (λ z. ArePassing k.pieces z passing) level_is f.are_passing)
      (λ o. let both = f.cuts o in (λ a. let c = both.0 a in (c.0, ap (passing_by k.pieces o) (sym level_is) ∙ c.1), λ c. both.1 (c.0, ap (passing_by k.pieces o) level_is ∙ c.1))) (open_lines fs' path.some) (f.count ∙ level_is) in
      subst (λ z. Reached k depth z done level (own ++ 10 ∷ new) fs') (sym (prefix_feed before (continued_prefix k passing) new)) reached

  -- what is known after an item's own line
  pub after_own : {new more shown : List ℕ} {m : ℕ} {fs' : List Flags} (text : List ℕ) → IsReadableWith k.pieces k.marker → (f : IsOwnLine k depth fs rest new more fs') → ArePath k.pieces fs' m shown
      → own ≡ text ++ end_codes k.leaf → Reached k depth (before ++ (own_prefix k f.pieces ++ new) ++ 10 ∷ []) (done ++ line level text ∷ []) (length fs') new fs'
  after_own {new} {more} {shown} {m} {fs'} text readable f path closed =
      let pieces = f.pieces in
      let level_is = h.count in
      let high = f.high in
      let reached = own_reached k readable depth before done level own text pieces new (length fs') fs fs' h closed f.one f.low (omega (arith, high, level_is)) f.deep f.are_pieces f.cuts (open_lines fs' path.some) refl in
      subst (λ z. Reached k depth z (done ++ line level text ∷ []) (length fs') new fs') (sym (prefix_feed before (own_prefix k pieces) new)) reached

  -- a line that is neither an own line nor a further one cannot continue the drawing
  pub next_wrong : IsReadableWith k.pieces k.marker → NoLine k depth fs rest → NoneNext k depth before rest
  next_wrong readable (inl none) new more one e goes = feedless_ends_no_line new more rest none e
  next_wrong readable (inr wrong) new more one e goes =
      let level_is = h.count in
      wrong_line k readable depth before done level own fs rest new more h e
      (λ o z a f. wrong.no_further o z a (f ∙ ap (λ y. continued_prefix k (passing_by k.pieces o y) ++ z) (sym level_is)))
      (λ text m o z closed low high deep a f. wrong.no_own m o z low (omega (arith, high, level_is)) deep a f) goes

  -- an item's own line cannot continue a text that is not closed
  pub next_open : {next behind : List ℕ} {fs' : List Flags} → IsReadableWith k.pieces k.marker → IsOwnLine k depth fs rest next behind fs' → ((text : List ℕ) → own ≢ text ++ end_codes k.leaf) → NoneNext k depth before rest
  next_open {next} {behind} {fs'} readable f never new more one e goes =
      wrong_line k readable depth before done level own fs rest new more h e
      (λ o z a g. own_is_not_further k readable level (length fs') f.pieces (passing_by k.pieces o level) (next ++ 10 ∷ behind) z f.are_pieces (passing_at k.pieces o level) (sym f.text_is ∙ g))
      (λ text m o z closed low high deep a g. never text closed) goes

-- Where whole lines end: before a wrong line, or with the text.
use Rattle.std.proofs.Common.{◌≡◌, ◌≢◌, ℕ, zero, suc, ◌<◌, ◌≤◌, inl, inr, Bool, true, false, not, cond, List, [], ◌∷◌, ◌++◌, refl, sym, ap, ◌∙◌, subst, append_assoc, get_or, arith}
use Rattle.std.proofs.lemmas.List.{append-nil}
use Rattle.std.proofs.lemmas.List.Elements.{All-head, All-tail, All-append}
use Rattle.ptree.specs.declared.read.lines.Flags.{Flags}
use Rattle.ptree.specs.Continuation.{HasContinuation}
use Rattle.ptree.specs.Drawing.{Look, with_inserted, continued_prefix}
use Rattle.ptree.specs.DrawnForm.{IsDrawnForm}
use Rattle.ptree.specs.Flags.{has_later, last_flags, pieces_by, passing_by}
use Rattle.ptree.specs.Outline.{Line, line, outline}
use Rattle.ptree.specs.Pieces.{Pieces}
use Rattle.ptree.specs.Reached.{allows, any_flags, Allows, AreWithin, IsOutlineWithin, lines_text, own_prefix, Follows, Reached}
use Rattle.ptree.specs.Readable.{IsReadableWith}
use Rattle.ptree.specs.Style.{start_codes, end_codes, painted_text}
use Rattle.ptree.specs.Texts.{HasNoLineFeed}
use Rattle.ptree.specs.Tree.{Tree}
use Rattle.ptree.proofs.Reading.LineEnds.{first_feed_after_prefix, no_feed_painted, no_feed_continued, no_feed_pieces}
use Rattle.ptree.proofs.Drawing.Inserted.{feed_not_empty}
use Rattle.ptree.proofs.Reading.LaterLines.{closings, closings_later, closings_steps}
use Rattle.ptree.proofs.Reading.NextLines.{line_split, valid_below, valid_more, form_outline, outline_form, tree_of_outline, moved_assoc}
use Rattle.ptree.proofs.Styles.PaintedTexts.{no_line_feed_start}
use Rattle.ptree.proofs.Reading.ReachedLines.{whole_lines_not_empty}
use Rattle.ptree.proofs.Reading.SpelledForms.{low_split}

-- ## A wrong line

-- a line that is neither an own line nor a further one is wrong
pub wrong_line : (k : Look) → IsReadableWith k.pieces k.marker → (depth : ℕ) (prefix : List ℕ) (lines : List Line) (level : ℕ) (own : List ℕ) (fs : List Flags) (x new rest : List ℕ)
    → Reached k depth prefix lines level own fs → x ≡ new ++ 10 ∷ rest
    → ((o : List Line) (z : List ℕ) → Allows fs o → x ≡ continued_prefix k (passing_by k.pieces o level) ++ z → ⊥)
    → ((text : List ℕ) (n : ℕ) (o : List Line) (z : List ℕ) → own ≡ text ++ end_codes k.leaf → 0 < n → n ≤ suc level → n ≤ depth → Allows fs (line n [] ∷ o) → x ≡ own_prefix k (pieces_by k.pieces o n) ++ z → ⊥)
    → HasContinuation k depth (prefix ++ new ++ 10 ∷ []) → ⊥
wrong_line k readable depth prefix lines level own fs x new rest h is_line no_further no_own (t, more, form) =
    let p : Pieces = k.pieces in
    let (e, valid) = form_outline k depth _ t form in
    let (below, text, is, allowed, follows) = h.to (outline t) (new ++ 10 ∷ more) valid (sym (moved_assoc prefix new more) ∙ e) in
    which valid below text is allowed follows
  where
    p : Pieces
    p = k.pieces

    which : IsOutlineWithin depth (outline t) → (below : List Line) (text : List ℕ) → outline t ≡ lines ++ line level text ∷ below → Allows fs below → Follows k level own text below (new ++ 10 ∷ more) → ⊥
    which valid below text is allowed (inr s) =
        let further : List ℕ = continued_prefix k (passing_by p below level) in
        let cut = first_feed_after_prefix further (with_inserted further s.0 ++ 10 ∷ lines_text k below) new more (no_feed_continued k readable (last_flags below level)) (sym (s.2 ∙ append_assoc further (with_inserted further s.0) (10 ∷ lines_text k below))) in
        no_further below (cut.0 ++ 10 ∷ rest) allowed (is_line ∙ (ap (λ z. z ++ 10 ∷ rest) cut.1 ∙ append_assoc further cut.0 (10 ∷ rest)))
    which valid [] text is allowed (inl s) = whole_lines_not_empty new more (append_assoc new (10 ∷ []) more ∙ s.1)
    which valid (l ∷ o') text is allowed (inl s) =
        let below = valid_below depth lines (line level text) (l ∷ o') (subst (IsOutlineWithin depth) is valid) in
        let there : List ℕ = pieces_by p o' l.level in
        let feed : HasNoLineFeed (own_prefix k there) =
        All-append (λ c. c ≢ 10) (painted_text k.branch there) (start_codes k.leaf) (no_feed_painted k.branch there (no_feed_pieces p readable.pieces o' l.level)) (no_line_feed_start k.leaf) in
        let cut = first_feed_after_prefix (own_prefix k there) _ new more feed (sym (s.1 ∙ line_split k l o')) in
        no_own text l.level o' (cut.0 ++ 10 ∷ rest) s.0 below.0.0 below.0.1 below.1.0 allowed (is_line ∙ (ap (λ z. z ++ 10 ∷ rest) cut.1 ∙ append_assoc (own_prefix k there) cut.0 (10 ∷ rest)))

-- ## Drawings that continue

-- the closing lines are within the depth, if their levels are
closings_within : (f : ℕ → Bool) (depth n : ℕ) → n ≤ depth → AreWithin depth (closings f n)
closings_within f depth zero l = tt
closings_within f depth (suc n) l = at (f (suc n)) (closings_within f depth n (omega arith)) where
  at : (b : Bool) → AreWithin depth (closings f n) → AreWithin depth (cond b (line (suc n) [] ∷ closings f n) (closings f n))
  at true rest = (l, rest)
  at false rest = rest

-- the level of the last line is within the depth
level_within : (depth : ℕ) (lines : List Line) (l : Line) → IsOutlineWithin depth (lines ++ l ∷ []) → l.level ≤ depth
level_within depth [] l h = let root = h.0 in omega (arith, root)
level_within depth (x ∷ lines) l h = (low_split depth lines (l ∷ []) h.2).1.0

-- some drawing continues the whole lines that were read
pub reached_goes_on : (k : Look) (depth : ℕ) (prefix : List ℕ) (lines : List Line) (level : ℕ) (own : List ℕ) (fs : List Flags) → Reached k depth prefix lines level own fs → HasContinuation k depth prefix
reached_goes_on k depth prefix lines level own fs h =
    let p : Pieces = k.pieces in
    let f : ℕ → Bool = has_later h.is_open.0 in
    let below : List Line = closings f level in
    let text : List ℕ = own ++ 10 ∷ [] in
    let here : Line = line level text in
    let count = h.count in
    let allowed : Allows fs below =
    λ n low. ap (λ z. allows (get_or fs n any_flags) (not z)) (closings_later f level (suc n) (omega arith) (omega (arith, count, low))) ∙ h.is_open.1 n low in
    let further : List ℕ = continued_prefix k (passing_by p below level) in
    let more : List ℕ = further ++ with_inserted further (end_codes k.leaf) ++ 10 ∷ lines_text k below in
    let o : List Line = lines ++ here ∷ below in
    let valid : IsOutlineWithin depth o = valid_more depth lines here below (h.valid text) (closings_steps f level level (omega arith)) (closings_within f depth level (level_within depth lines here (h.valid text))) in
    let (t, is) = tree_of_outline depth o valid in (
      t,
      more,
      outline_form k depth (prefix ++ more) t (subst (IsOutlineWithin depth) (sym is) valid)
          (h.from o more (below, text, refl, allowed, inr (end_codes k.leaf, append_assoc own (10 ∷ []) (end_codes k.leaf), refl)) ∙ ap (lines_text k) (sym is)),
    )

-- ## The end

-- whole lines are a drawing if the last text is closed and every open item can be last
pub reached_end : (k : Look) (depth : ℕ) (prefix : List ℕ) (lines : List Line) (level : ℕ) (own text : List ℕ) (fs : List Flags) (t : Tree) → Reached k depth prefix lines level own fs
    → own ≡ text ++ end_codes k.leaf → Allows fs [] → outline t ≡ lines ++ line level text ∷ [] → IsDrawnForm k depth prefix t
reached_end k depth prefix lines level own text fs t h closed allowed is =
    outline_form k depth prefix t (subst (IsOutlineWithin depth) (sym is) (h.valid text))
    (sym (append-nil prefix) ∙ (h.from (lines ++ line level text ∷ []) [] ([], text, refl, allowed, inl (closed, refl)) ∙ ap (lines_text k) (sym is)))

-- whole lines are no drawing if the last text is not closed or an open item cannot be last
pub reached_none : (k : Look) (depth : ℕ) (prefix : List ℕ) (lines : List Line) (level : ℕ) (own : List ℕ) (fs : List Flags) → Reached k depth prefix lines level own fs
    → ((text : List ℕ) → own ≡ text ++ end_codes k.leaf → Allows fs [] → ⊥) → (t : Tree) → IsDrawnForm k depth prefix t → ⊥
reached_none k depth prefix lines level own fs h none t form =
    let (e, valid) = form_outline k depth prefix t form in
    let (below, text, is, allowed, follows) = h.to (outline t) [] valid (append-nil prefix ∙ e) in
    which below text allowed follows
  where
    which : (below : List Line) (text : List ℕ) → Allows fs below → Follows k level own text below [] → ⊥
    which below text allowed (inr s) = feed_not_empty _ (lines_text k below) s.2
    which [] text allowed (inl s) = none text s.0 allowed
    which (l ∷ o') text allowed (inl s) =
        feed_not_empty _ (lines_text k o') (s.1 ∙ (line_split k l o' ∙ sym (append_assoc (own_prefix k (pieces_by k.pieces o' l.level)) _ (10 ∷ lines_text k o'))))

-- a text without a line feed does not end in a line
pub feedless_ends_no_line : (a b x : List ℕ) → HasNoLineFeed x → x ≡ a ++ 10 ∷ b → ⊥
feedless_ends_no_line [] b [] h e = feed_not_empty [] b e
feedless_ends_no_line [] b (c ∷ x) h e = All-head (λ c. c ≢ 10) c x h (let heads : c ≡ 10 = cc in heads)
feedless_ends_no_line (d ∷ a) b [] h e = feed_not_empty (d ∷ a) b e
feedless_ends_no_line (d ∷ a) b (c ∷ x) h e = feedless_ends_no_line a b x (All-tail (λ c. c ≢ 10) c x h) (let tails : x ≡ a ++ 10 ∷ b = cc in tails)

-- whole lines and a part of another one are no drawing
pub reached_short : (k : Look) (depth : ℕ) (prefix : List ℕ) (lines : List Line) (level : ℕ) (own : List ℕ) (fs : List Flags) (x : List ℕ) → Reached k depth prefix lines level own fs
    → HasNoLineFeed x → (x ≡ [] → ⊥) → (t : Tree) → IsDrawnForm k depth (prefix ++ x) t → ⊥
reached_short k depth prefix lines level own fs x h one some t form =
    let (e, valid) = form_outline k depth (prefix ++ x) t form in
    let (below, text, is, allowed, follows) = h.to (outline t) x valid e in
    which below text follows
  where
    which : (below : List Line) (text : List ℕ) → Follows k level own text below x → ⊥
    which below text (inr s) = feedless_ends_no_line _ (lines_text k below) x one s.2
    which [] text (inl s) = some s.1
    which (l ∷ o') text (inl s) =
        feedless_ends_no_line _ (lines_text k o') x one (s.1 ∙ (line_split k l o' ∙ sym (append_assoc (own_prefix k (pieces_by k.pieces o' l.level)) _ (10 ∷ lines_text k o'))))

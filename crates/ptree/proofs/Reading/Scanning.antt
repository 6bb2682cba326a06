-- Reading a text line by line.
use Rattle.std.proofs.Common.{◌≡◌, ◌≢◌, ℕ, ◌+◌, ◌-◌, ◌<◌, ◌≤◌, ◌⊎◌, inl, inr, List, [], ◌∷◌, ◌++◌, length, length-append, refl, sym, ap, ◌∙◌, subst, append_assoc, add-one, arith}
use Rattle.std.specs.Prelude.{Result, Ok, Err, IfOk, IsOkUnless}
use Rattle.std.proofs.lemmas.List.{append-nil}
use Rattle.std.proofs.lemmas.List.Elements.{All-nil, All-append}
use Rattle.ptree.specs.declared.item.StringItem.{StringItem}
use Rattle.ptree.specs.declared.read.ReadError.{ReadError}
use Rattle.ptree.specs.declared.read.ReadError.TheVariants.{Line as WrongLine, End, Memory}
use Rattle.ptree.specs.declared.read.lines.Flags.{Flags}
use Rattle.ptree.specs.Continuation.{HasContinuation, IsFirstWrongLine, EndsWrong, first_lines, line_count}
use Rattle.ptree.specs.Drawing.{Look, with_inserted, continued_prefix}
use Rattle.ptree.specs.DrawnForm.{IsDrawnForm, IsDrawnOutline}
use Rattle.ptree.specs.Flags.{pieces_by, passing_by}
use Rattle.ptree.specs.OpenDrawing.{NoneNext}
use Rattle.ptree.specs.Outline.{Line, line, outline}
use Rattle.ptree.specs.Reached.{Allows, IsOutlineWithin, lines_text, own_prefix, Reached, ArePath, IsFurtherLine, IsOwnLine, NoLine}
use Rattle.ptree.specs.Readable.{IsReadableWith}
use Rattle.ptree.specs.Scanned.{IsError, IsReading, IsScanned, IsStop}
use Rattle.ptree.specs.Style.{start_codes, end_codes, painted_text}
use Rattle.ptree.specs.Texts.{HasNoLineFeed}
use Rattle.ptree.specs.Tree.{Tree, tree_of}
use Rattle.ptree.proofs.Reading.AfterLines.{one_feed, further_line, own_line, after_further, after_own, next_wrong, next_open}
use Rattle.ptree.proofs.Reading.Continuations.{goes_on_nothing}
use Rattle.ptree.proofs.Reading.LineEnds.{first_feed_after_prefix, no_feed_painted}
use Rattle.ptree.proofs.Reading.FirstLines.{first_rest, first_next, first_more, count_none, count_line}
use Rattle.ptree.proofs.Reading.NextLines.{line_split, form_outline, tree_of_outline}
use Rattle.ptree.proofs.Reading.ReachedLines.{root_reached}
use Rattle.ptree.proofs.Reading.ReachedEnds.{reached_goes_on, reached_end, reached_none, reached_short, feedless_ends_no_line}
use Rattle.ptree.proofs.Reading.SpelledForms.{same_drawn_form}
use Rattle.ptree.proofs.Styles.PaintedTexts.{no_line_feed_start, no_line_feed_end}
use Rattle.ptree.proofs.Trees.Outlines.{same_tree}

-- what is before the root's text holds no line feed
pub feedless_root : (k : Look) → HasNoLineFeed (own_prefix k [])
feedless_root k = All-append (λ c. c ≢ 10) (painted_text k.branch []) (start_codes k.leaf) (no_feed_painted k.branch [] (All-nil (λ c. c ≢ 10))) (no_line_feed_start k.leaf)

-- one line more was read
scan_next : (k : Look) (depth : ℕ) (x rest new more : List ℕ) (n : ℕ) (done : List Line) (level : ℕ) (own : List ℕ) (fs : List Flags) → x ≡ first_lines n x ++ rest → line_count x ≡ n + line_count rest → n + length rest ≤ length x
    → HasNoLineFeed new → rest ≡ new ++ 10 ∷ more → Reached k depth (first_lines n x ++ new ++ 10 ∷ []) done level own fs → IsScanned k depth x more (n + 1) done level own fs
scan_next k depth x rest new more n done level own fs is count room one e h =
    let counted = ap line_count e ∙ count_line new more one in
    let size = ap length e ∙ length-append new (10 ∷ more) in
    record {
      text_is = first_more n x rest new more is e one;
      count = omega (arith, count, counted);
      room = omega (arith, room, size);
      reached = subst (λ z. Reached k depth z done level own fs) (sym (first_next n x rest new more is e one) ∙ ap (λ m. first_lines m x) (sym (add-one n))) h;
    }

-- the root's first line was read
pub scan_start : (k : Look) (depth : ℕ) (x own more : List ℕ) → HasNoLineFeed own → x ≡ own_prefix k [] ++ (own ++ 10 ∷ more) → IsScanned k depth x more 1 [] 0 own []
scan_start k depth x own more one e =
    scan_next k depth x x (own_prefix k [] ++ own) more 0 [] 0 own [] refl (let z : line_count x ≡ 0 + line_count x = omega arith in z) (omega arith)
    (All-append (λ c. c ≢ 10) (own_prefix k []) own (feedless_root k) one) (e ∙ one_feed (own_prefix k []) own more) (root_reached k depth own one)

-- what follows from the lines that were read
module _ {k : Look} {depth : ℕ} {x rest own : List ℕ} {n : ℕ} {done : List Line} {level : ℕ} {fs : List Flags} (h : IsScanned k depth x rest n done level own fs) where
  -- a further line was read
  pub scan_further : {new more shown : List ℕ} {m : ℕ} {fs' : List Flags} → IsReadableWith k.pieces k.marker → IsFurtherLine k fs rest new more fs' → ArePath k.pieces fs' m shown
      → IsScanned k depth x more (n + 1) done level (own ++ 10 ∷ new) fs'
  scan_further {new} {more} {shown} {m} {fs'} readable f path =
      let (one, is) = further_line k readable fs fs' rest new more f in
      scan_next k depth x rest (continued_prefix k f.passing ++ new) more n done level (own ++ 10 ∷ new) fs' h.text_is h.count h.room one is (after_further h.reached readable f path)

  -- an item's own line was read
  pub scan_own : {new more shown : List ℕ} {m : ℕ} {fs' : List Flags} (text : List ℕ) → IsReadableWith k.pieces k.marker → IsOwnLine k depth fs rest new more fs' → ArePath k.pieces fs' m shown
      → own ≡ text ++ end_codes k.leaf → IsScanned k depth x more (n + 1) (done ++ line level text ∷ []) (length fs') new fs'
  scan_own {new} {more} {shown} {m} {fs'} text readable f path closed =
      let (one, is) = own_line k readable depth fs fs' rest new more f in
      scan_next k depth x rest (own_prefix k f.pieces ++ new) more n (done ++ line level text ∷ []) (length fs') new fs' h.text_is h.count h.room one is (after_own h.reached text readable f path closed)

  -- what was read, under equal names
  pub scan_moved : {done' : List Line} {level' : ℕ} {own' : List ℕ} → done' ≡ done → level' ≡ level → own' ≡ own → IsScanned k depth x rest n done' level' own' fs
  scan_moved {done'} {level'} {own'} d l o =
      subst (λ z. IsScanned k depth x rest n z level' own' fs) (sym d) (subst (λ z. IsScanned k depth x rest n done z own' fs) (sym l) (subst (λ z. IsScanned k depth x rest n done level z fs) (sym o) h))

-- ## Wrong lines

-- no drawing continues the first n lines with the next one
abbrev pub NoneWith : Look → ℕ → List ℕ → List ℕ → ℕ → Type 0
NoneWith k depth x rest n = NoneNext k depth (first_lines n x) rest

module _ {k : Look} {depth : ℕ} {x rest own : List ℕ} {n : ℕ} {done : List Line} {level : ℕ} {fs : List Flags} (h : IsScanned k depth x rest n done level own fs) where
  -- a line that is neither an own line nor a further one cannot continue the drawing
  pub scan_wrong : IsReadableWith k.pieces k.marker → NoLine k depth fs rest → NoneWith k depth x rest n
  scan_wrong readable wrong = next_wrong h.reached readable wrong

  -- an item's own line cannot continue a text that is not closed
  pub scan_open : {next behind : List ℕ} {fs' : List Flags} → IsReadableWith k.pieces k.marker → IsOwnLine k depth fs rest next behind fs' → ((text : List ℕ) → own ≢ text ++ end_codes k.leaf) → NoneWith k depth x rest n
  scan_open readable f never = next_open h.reached readable f never

  -- a text that ends within a line is no drawing
  pub scan_short : (rest ≡ [] → ⊥) → HasNoLineFeed rest → (t : Tree) → IsDrawnForm k depth x t → ⊥
  scan_short some one t form = reached_short k depth (first_lines n x) done level own fs rest h.reached one some t (subst (λ z. IsDrawnForm k depth z t) h.text_is form)

  -- some drawing continues the lines that were read
  pub scan_before : HasContinuation k depth (first_lines n x)
  scan_before = reached_goes_on k depth (first_lines n x) done level own fs h.reached

-- ## Without a root

-- some drawing continues the empty text
pub root_before : (k : Look) → IsReadableWith k.pieces k.marker → (depth : ℕ) (x : List ℕ) → HasContinuation k depth (first_lines 0 x)
root_before k readable depth x = goes_on_nothing k readable depth

-- a text without a line feed is no drawing
pub root_short : (k : Look) (depth : ℕ) (x : List ℕ) → HasNoLineFeed x → (t : Tree) → IsDrawnForm k depth x t → ⊥
root_short k depth x one t form =
    let (e, valid) = form_outline k depth x t form in
    at (outline t) valid e
  where
    at : (o : List Line) → IsOutlineWithin depth o → x ≡ lines_text k o → ⊥
    at [] valid e = absurd valid
    at (l ∷ o) valid e = feedless_ends_no_line _ (lines_text k o) x one (e ∙ (line_split k l o ∙ sym (append_assoc (own_prefix k (pieces_by k.pieces o l.level)) _ (10 ∷ lines_text k o))))

-- a first line without the root's prefix begins no drawing
pub root_wrong : (k : Look) (depth : ℕ) (x : List ℕ) → HasNoLineFeed x ⊎ ((z : List ℕ) → x ≢ own_prefix k [] ++ z) → NoneWith k depth x x 0
root_wrong k depth x (inl none) new more one e goes = feedless_ends_no_line new more x none e
root_wrong k depth x (inr never) new more one e (t, after, form) =
    let (same, valid) = form_outline k depth _ t form in
    at (outline t) valid (sym (append_assoc new (10 ∷ []) after) ∙ same)
  where
    at : (o : List Line) → IsOutlineWithin depth o → new ++ 10 ∷ after ≡ lines_text k o → ⊥
    at [] valid f = absurd valid
    at (l ∷ o) valid f =
        let cut = first_feed_after_prefix (own_prefix k []) _ new after (feedless_root k) (sym (f ∙ (line_split k l o ∙ ap (λ m. own_prefix k (pieces_by k.pieces o m) ++ (with_inserted (continued_prefix k (passing_by k.pieces o l.level)) (l.text ++ end_codes k.leaf) ++ 10 ∷ lines_text k o)) valid.0))) in
        never (cut.0 ++ 10 ∷ more) (e ∙ (ap (λ z. z ++ 10 ∷ more) cut.1 ∙ append_assoc (own_prefix k []) cut.0 (10 ∷ more)))

-- ## The end

-- the next line is the first wrong one
pub stop_line : (k : Look) (depth : ℕ) (x rest new more : List ℕ) (n : ℕ) → x ≡ first_lines n x ++ rest → line_count x ≡ n + line_count rest → HasContinuation k depth (first_lines n x) → NoneWith k depth x rest n
    → HasNoLineFeed new → rest ≡ new ++ 10 ∷ more → IsFirstWrongLine k depth x (n + 1)
stop_line k depth x rest new more n is count before none one e =
    let counted = ap line_count e ∙ count_line new more one in
    let less : n + 1 - 1 ≡ n = omega arith in
    record {
      low = omega arith;
      high = omega (arith, count, counted);
      before = subst (λ m. HasContinuation k depth (first_lines m x)) (sym less) before;
      wrong = λ goes. none new more one e (subst (HasContinuation k depth) (ap (λ m. first_lines m x) (add-one n) ∙ first_next n x rest new more is e one) goes);
    }

-- the text ends too early
pub stop_end : (k : Look) (depth : ℕ) (x rest : List ℕ) (n : ℕ) → line_count x ≡ n + line_count rest → HasContinuation k depth (first_lines n x) → (HasNoLineFeed rest → (t : Tree) → IsDrawnForm k depth x t → ⊥) → HasNoLineFeed rest → EndsWrong k depth x
stop_end k depth x rest n count before short one =
    let none = count_none rest one in
    let all : n ≡ line_count x = omega (arith, count, none) in
    record { lines = subst (λ m. HasContinuation k depth (first_lines m x)) all before; wrong = short one }

-- if nothing is left
module _ {k : Look} {depth : ℕ} {x rest own : List ℕ} {n : ℕ} {done : List Line} {level : ℕ} {fs : List Flags} (h : IsScanned k depth x rest n done level own fs) (e : rest ≡ []) where
  -- the text is its first lines
  whole_text : x ≡ first_lines n x
  whole_text = h.text_is ∙ (ap (λ z. first_lines n x ++ z) e ∙ append-nil (first_lines n x))

  -- it ends too early after a line that cannot be the last one
  pub scan_ends_wrong : ((text : List ℕ) → own ≡ text ++ end_codes k.leaf → Allows fs [] → ⊥) → EndsWrong k depth x
  scan_ends_wrong never =
      stop_end k depth x rest n h.count (scan_before h)
      (λ one t form. reached_none k depth (first_lines n x) done level own fs h.reached never t (subst (λ z. IsDrawnForm k depth z t) whole_text form))
      (subst HasNoLineFeed (sym e) (All-nil (λ c. c ≢ 10)))

  -- it is a drawing after one that can be the last
  pub scan_end : (text : List ℕ) → own ≡ text ++ end_codes k.leaf → Allows fs [] → IsDrawnOutline k depth x (done ++ line level text ∷ [])
  scan_end text closed allowed =
      let (t, is) = tree_of_outline depth (done ++ line level text ∷ []) (h.reached.valid text) in
      (t, is, subst (λ z. IsDrawnForm k depth z t) (sym whole_text) (reached_end k depth (first_lines n x) done level own text fs t h.reached closed allowed is))

-- the drawing of a tree's lines is the tree's
pub form_of_lines : (k : Look) (depth : ℕ) (x : List ℕ) (t : Tree) → IsDrawnOutline k depth x (outline t) → IsDrawnForm k depth x t
form_of_lines k depth x t (u, is, form) = subst (IsDrawnForm k depth x) (same_tree u t is) form

-- a text with a wrong line is no drawing
pub wrong_line_no_drawing : (k : Look) (depth : ℕ) (x : List ℕ) (n : ℕ) → IsFirstWrongLine k depth x n → (t : Tree) → IsDrawnForm k depth x t → ⊥
wrong_line_no_drawing k depth x n h t form =
    let (rest, is) = first_rest n x in
    h.wrong (t, rest, subst (λ z. IsDrawnForm k depth z t) is form)

-- if the rest after a root's prefix has no line feed, the text has none
pub feedless_start : (k : Look) (x text closed start : List ℕ) → x ≡ start_codes k.branch ++ text → text ≡ end_codes k.branch ++ closed → closed ≡ start_codes k.leaf ++ start → HasNoLineFeed start → HasNoLineFeed x
feedless_start k x text closed start e f g h =
    let third : HasNoLineFeed closed = subst HasNoLineFeed (sym g) (All-append (λ c. c ≢ 10) (start_codes k.leaf) start (no_line_feed_start k.leaf) h) in
    let second : HasNoLineFeed text = subst HasNoLineFeed (sym f) (All-append (λ c. c ≢ 10) (end_codes k.branch) closed (no_line_feed_end k.branch) third) in
    subst HasNoLineFeed (sym e) (All-append (λ c. c ≢ 10) (start_codes k.branch) text (no_line_feed_start k.branch) second)

-- the rest after a line is shorter
pub rest_is_shorter : (a b more rest : List ℕ) → rest ≡ a ++ (b ++ 10 ∷ more) → length more < length rest
rest_is_shorter a b more rest e = let size = ap length e in omega (arith, simp length-append at size)

-- ## Errors

-- what is said if no drawing continues the first lines with the rest is the error of the text
pub stop_error : (k : Look) (depth : ℕ) (x rest : List ℕ) (n : ℕ) (e : ReadError) → IsStop rest n e → x ≡ first_lines n x ++ rest → line_count x ≡ n + line_count rest → HasContinuation k depth (first_lines n x) → NoneWith k depth x rest n
    → (HasNoLineFeed rest → (t : Tree) → IsDrawnForm k depth x t → ⊥) → IsError k depth x e
stop_error k depth x rest n (WrongLine m) s is count before none short =
    let (own, more, one, e) = s.1 in
    subst (IsFirstWrongLine k depth x) (sym s.0) (stop_line k depth x rest own more n is count before none one e)
stop_error k depth x rest n End s is count before none short = stop_end k depth x rest n count before short s
stop_error k depth x rest n Memory s is count before none short = absurd s

-- the same behind lines that were read
pub scan_stop : {k : Look} {depth : ℕ} {x rest own : List ℕ} {n : ℕ} {done : List Line} {level : ℕ} {fs : List Flags} → IsScanned k depth x rest n done level own fs → (e : ReadError) → IsStop rest n e → (rest ≡ [] → ⊥) → NoneWith k depth x rest n → IsError k depth x e
scan_stop {k} {depth} {x} {rest} {own} {n} h e s some none = stop_error k depth x rest n e s h.text_is h.count (scan_before h) none (scan_short h some)

-- a text with an error is no drawing, unless memory ran out
pub error_no_drawing : (k : Look) (depth : ℕ) (x : List ℕ) (e : ReadError) → IsError k depth x e → (t : Tree) → IsDrawnForm k depth x t → e ≡ Memory
error_no_drawing k depth x (WrongLine n) h t form = absurd (wrong_line_no_drawing k depth x n h t form)
error_no_drawing k depth x End h t form = absurd (h.wrong t form)
error_no_drawing k depth x Memory h t form = refl

-- what is read of a drawing has the lines of its tree
pub reading_drawn : {T : Type 0} (lines_of : T → List Line) (k : Look) (depth : ℕ) (x : List ℕ) (r : Result T ReadError) → IsReadableWith k.pieces k.marker → IsReading lines_of k depth x r
    → (t : Tree) → IsDrawnForm k depth x t → IsOkUnless r Memory × IfOk r (λ w. outline t ≡ lines_of w)
reading_drawn lines_of k depth x (Ok w) readable (u, is, form) t d = (tt, ap outline (same_drawn_form k depth readable x t u d form) ∙ is)
reading_drawn lines_of k depth x (Err e) readable h t d = (error_no_drawing k depth x e h t d, tt)

-- a tree that was read has the text as its drawing
pub reading_form : (k : Look) (depth : ℕ) (x : List ℕ) (r : Result StringItem ReadError) → IsReading (λ s. outline (tree_of s)) k depth x r → IfOk r (λ s. IsDrawnForm k depth x (tree_of s))
reading_form k depth x (Ok s) h = form_of_lines k depth x (tree_of s) h
reading_form k depth x (Err e) h = tt

-- what was read, by equal names
pub reading_moved : {T : Type 0} (lines_of : T → List Line) (k l : Look) (depth d : ℕ) (x : List ℕ) (r : Result T ReadError) → k ≡ l → depth ≡ d → IsReading lines_of k depth x r → IsReading lines_of l d x r
reading_moved lines_of k l depth d x r look same h = subst (λ z. IsReading lines_of z d x r) look (subst (λ z. IsReading lines_of k z x r) same h)

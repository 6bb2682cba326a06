-- Drawings of which whole lines were read.
use Rattle.std.proofs.Common.{◌≡◌, ◌≢◌, ℕ, ◌⊎◌, inl, inr, ◌<◌, Result, Ok, Err, Bool, true, false, List, [], ◌∷◌, ◌++◌, length, length-append, get_or, refl, sym, ap, ◌∙◌, subst, append_assoc, arith}
use Rattle.std.proofs.lemmas.Bool.{false≢true, cases_lt}
use Rattle.std.proofs.Math.Seq.{get_or-append_seam}
use Rattle.std.proofs.lemmas.List.{get_or_append_left}
use Rattle.std.proofs.lemmas.List.Elements.{All-nil, All-cons, All-append}
use Rattle.std.specs.Prelude.{◌↔◌, IfOk}
use Rattle.ptree.specs.declared.read.follow.OpenDrawing.{OpenDrawing}
use Rattle.ptree.specs.declared.read.lines.Flags.{Flags}
use Rattle.ptree.specs.Continuation.{HasContinuation, IsFollowedBy}
use Rattle.ptree.specs.Drawing.{Look, continued_prefix}
use Rattle.ptree.specs.OpenDrawing.{AreLines, IsClosed, HasRead, IsAfter, NoneNext, GoesOnNowhere, IsNext, WasRead}
use Rattle.ptree.specs.Outline.{Line, line}
use Rattle.ptree.specs.Reached.{own_prefix, Reached, ArePath, IsPath, IsFurtherLine, IsOwnLine, NoLine}
use Rattle.ptree.specs.Readable.{IsReadableWith}
use Rattle.ptree.specs.Style.{end_codes}
use Rattle.ptree.specs.Texts.{HasNoLineFeed}
use Rattle.ptree.proofs.Drawing.Inserted.{is_feed}
use Rattle.ptree.proofs.Reading.AfterLines.{one_feed, further_line, own_line, after_further, after_own, next_wrong, next_open}
use Rattle.ptree.proofs.Reading.Continuations.{goes_on_nothing, goes_on_before}
use Rattle.ptree.proofs.Reading.OwnBytes.{holds_line_feed}
use Rattle.ptree.proofs.Reading.ReachedEnds.{reached_goes_on}
use Rattle.ptree.proofs.Reading.ReachedLines.{root_reached}
use Rattle.ptree.proofs.Reading.Scanning.{feedless_root, root_wrong}
use Rattle.ptree.proofs.Styles.PaintedTexts.{no_line_feed_end}

-- some drawing goes on behind what was read
after_goes_on : (k : Look) → IsReadableWith k.pieces k.marker → (depth : ℕ) (before : List ℕ) (d : OpenDrawing) → IsAfter k depth before d → HasContinuation k depth before
after_goes_on k readable depth before d h = at d.has_root refl where
  at : (b : Bool) → d.has_root ≡ b → HasContinuation k depth before
  at false e = subst (HasContinuation k depth) (sym (h.nothing e).0) (goes_on_nothing k readable depth)
  at true e = let r = h.something e in reached_goes_on k depth before r.lines (length d.path.flags.items) r.own d.path.flags.items r.reached

-- ## The root's line

-- without the root's prefix no drawing goes on
pub no_root : (k : Look) (depth : ℕ) (text : List ℕ) (a : OpenDrawing) → a.has_root ≡ false → HasNoLineFeed text ⊎ ((z : List ℕ) → text ≢ own_prefix k [] ++ z) → GoesOnNowhere k depth text a
no_root k depth text a none wrong before h = subst (λ b. NoneNext k depth b text) (sym (h.nothing none).0) (root_wrong k depth text wrong)

-- the root's line was read
pub root_next : (k : Look) (depth : ℕ) (own rest text : List ℕ) (a b : OpenDrawing) → a.has_root ≡ false → b.path ≡ a.path → b.has_root ≡ true → (b.is_closed ≡ true) ↔ IsClosed k own
    → HasNoLineFeed own → text ≡ own_prefix k [] ++ (own ++ 10 ∷ rest) → IsNext k depth text rest a b
root_next k depth own rest text a b none path root closes one is =
    let line : List ℕ = own_prefix k [] ++ own in (
      line,
      All-append (λ c. c ≢ 10) (own_prefix k []) own (feedless_root k) one,
      is ∙ one_feed (own_prefix k []) own rest,
      λ before h.
          let (empty, flags) = h.nothing none in
          let items : b.path.flags.items ≡ [] = ap (λ p. p.flags.items) path ∙ flags in
          let read : HasRead k depth (before ++ line ++ 10 ∷ []) [] b.is_closed = record { lines = []; own = own; reached = subst (λ z. Reached k depth (z ++ line ++ 10 ∷ []) [] 0 own []) (sym empty) (root_reached k depth own one); closes = closes } in
          record {
            path = subst (λ p. ArePath k.pieces p.flags.items p.count p.shown.now) (sym path) h.path;
            nothing = λ e. absurd (false≢true (sym e ∙ root));
            something = λ _. subst (λ z. HasRead k depth (before ++ line ++ 10 ∷ []) z b.is_closed) (sym items) read;
          },
    )

-- ## The lines below

-- a text without a line feed that ends lines ends the last one
behind_feed : (a b c d : List ℕ) → HasNoLineFeed d → a ++ 10 ∷ b ≡ c ++ d → (z : List ℕ) × (b ≡ z ++ d)
behind_feed a b [] d h e = absurd (holds_line_feed a b (subst HasNoLineFeed (sym e) h))
behind_feed [] b (y ∷ c) d h e = (c, let tails : b ≡ c ++ d = cc in tails)
behind_feed (x ∷ a) b (y ∷ c) d h e = behind_feed a b c d h (let tails : a ++ 10 ∷ b ≡ c ++ d = cc in tails)

-- whether an item's bytes may end with a line is seen from the line
closed_further : (k : Look) (own new : List ℕ) → IsClosed k (own ++ 10 ∷ new) ↔ IsClosed k new
closed_further k own new = (
  λ c. behind_feed own new c.0 (end_codes k.leaf) (no_line_feed_end k.leaf) c.1,
  λ c. (own ++ 10 ∷ c.0, ap (λ z. own ++ 10 ∷ z) c.1 ∙ sym (append_assoc own (10 ∷ c.0) (end_codes k.leaf))),
)

-- what is known of a line is known of the drawing
line_read : (k : Look) (depth : ℕ) (before own : List ℕ) (done : List Line) (level : ℕ) (b : OpenDrawing) → level ≡ length b.path.flags.items → Reached k depth before done level own b.path.flags.items
    → IsPath k.pieces b.path → b.has_root ≡ true → (b.is_closed ≡ true) ↔ IsClosed k own → IsAfter k depth before b
line_read k depth before own done level b level_is reached path root closes = record {
  path = path;
  nothing = λ e. absurd (false≢true (sym e ∙ root));
  something = λ _. record { lines = done; own = own; reached = subst (λ z. Reached k depth before done z own b.path.flags.items) level_is reached; closes = closes };
}

-- a further line was read
pub further_next : (k : Look) → IsReadableWith k.pieces k.marker → (depth : ℕ) (new rest text : List ℕ) (a b : OpenDrawing) → a.has_root ≡ true → b.has_root ≡ true → IsFurtherLine k a.path.flags.items text new rest b.path.flags.items
    → IsPath k.pieces b.path → (b.is_closed ≡ true) ↔ IsClosed k new → IsNext k depth text rest a b
further_next k readable depth new rest text a b root still f path closes =
    let (one, is) = further_line k readable a.path.flags.items b.path.flags.items text new rest f in (
      continued_prefix k f.passing ++ new,
      one,
      is,
      λ before h.
          let r = h.something root in
          let closed = closed_further k r.own new in
          line_read k depth _ (r.own ++ 10 ∷ new) r.lines (length a.path.flags.items) b (sym f.count) (after_further r.reached readable f path) path still (λ e. closed.1 (closes.0 e), λ c. closes.1 (closed.0 c)),
    )

-- an item's own line was read
pub own_next : (k : Look) → IsReadableWith k.pieces k.marker → (depth : ℕ) (new rest text : List ℕ) (a b : OpenDrawing) → a.has_root ≡ true → b.has_root ≡ true → a.is_closed ≡ true → IsOwnLine k depth a.path.flags.items text new rest b.path.flags.items
    → IsPath k.pieces b.path → (b.is_closed ≡ true) ↔ IsClosed k new → IsNext k depth text rest a b
own_next k readable depth new rest text a b root still closed f path closes =
    let (one, is) = own_line k readable depth a.path.flags.items b.path.flags.items text new rest f in (
      own_prefix k f.pieces ++ new,
      one,
      is,
      λ before h.
          let r = h.something root in
          let (last, ends) = r.closes.0 closed in
          line_read k depth _ new (r.lines ++ line (length a.path.flags.items) last ∷ []) (length b.path.flags.items) b refl (after_own r.reached last readable f path ends) path still closes,
    )

-- no line goes on
pub wrong_next : (k : Look) → IsReadableWith k.pieces k.marker → (depth : ℕ) (text : List ℕ) (a : OpenDrawing) → a.has_root ≡ true → NoLine k depth a.path.flags.items text → GoesOnNowhere k depth text a
wrong_next k readable depth text a root wrong before h = next_wrong (h.something root).reached readable wrong

-- nor does an item's own line behind a text that is not closed
pub unclosed_next : (k : Look) → IsReadableWith k.pieces k.marker → (depth : ℕ) (new rest text : List ℕ) (a : OpenDrawing) (fs : List Flags) → a.has_root ≡ true → a.is_closed ≡ false → IsOwnLine k depth a.path.flags.items text new rest fs → GoesOnNowhere k depth text a
unclosed_next k readable depth new rest text a fs root unclosed f before h =
    let r = h.something root in
    next_open r.reached readable f (λ last e. false≢true (sym unclosed ∙ r.closes.1 (last, e)))

-- ## Several lines

-- nothing is behind a part of nothing
nothing_behind : (a rest : List ℕ) → a ++ rest ≡ [] → rest ≡ []
nothing_behind [] rest e = e
nothing_behind (x ∷ a) rest e = let impossible : ⊥ = cc in absurd impossible

-- of whole lines, what is behind others is whole lines
lines_behind : (a rest front : List ℕ) → a ++ rest ≡ front ++ 10 ∷ [] → AreLines rest
lines_behind [] rest front e = inr (front, e)
lines_behind (x ∷ a) rest [] e = inl (nothing_behind a rest (let tails : a ++ rest ≡ [] = cc in tails))
lines_behind (x ∷ a) rest (y ∷ front) e = lines_behind a rest front (let tails : a ++ rest ≡ front ++ 10 ∷ [] = cc in tails)

-- a text with a line feed begins with a line
first_cut : (front rest : List ℕ) → (line : List ℕ) × (more : List ℕ) × HasNoLineFeed line × (front ++ 10 ∷ rest ≡ line ++ 10 ∷ more)
first_cut [] rest = ([], rest, All-nil (λ c. c ≢ 10), refl)
first_cut (b ∷ front) rest = elim (is_feed b) [
  | inl feed ↦ ([], front ++ 10 ∷ rest, All-nil (λ c. c ≢ 10), ap (λ z. z ∷ (front ++ 10 ∷ rest)) feed)
  | inr other ↦ let (line, more, one, is) = first_cut front rest in (b ∷ line, more, All-cons (λ c. c ≢ 10) b line other one, ap (λ z. b ∷ z) is)
]

-- a part of these lines was read, and this rest is left
pub record ReadsOn (k : Look) (depth : ℕ) (lines rest : List ℕ) (a b : OpenDrawing) : Type 0 where
  pub part : List ℕ
  pub is : lines ≡ part ++ rest
  pub so : (before : List ℕ) → IsAfter k depth before a → IsAfter k depth (before ++ part) b

-- one more line was read
pub reads_more : (k : Look) (depth : ℕ) (lines rest more : List ℕ) (a b c : OpenDrawing) → ReadsOn k depth lines rest a b → IsNext k depth rest more b c → ReadsOn k depth lines more a c
reads_more k depth lines rest more a b c h (line, one, is, next) = record {
  part = h.part ++ line ++ 10 ∷ [];
  is = h.is ∙ (ap (λ z. h.part ++ z) is ∙ regrouped h.part line);
  so = λ before first. subst (λ z. IsAfter k depth z c) (regrouped_before before h.part line) (next (before ++ h.part) (h.so before first));
} where
  regrouped : (x y : List ℕ) → x ++ (y ++ 10 ∷ more) ≡ (x ++ y ++ 10 ∷ []) ++ more
  regrouped x y = simp append_assoc

  regrouped_before : (x y z : List ℕ) → (x ++ y) ++ z ++ 10 ∷ [] ≡ x ++ (y ++ z ++ 10 ∷ [])
  regrouped_before x y z = simp append_assoc

-- no drawing begins with them
pub reads_nowhere : (k : Look) (depth : ℕ) (lines rest : List ℕ) (a b : OpenDrawing) → AreLines lines → ReadsOn k depth lines rest a b → rest ≢ [] → GoesOnNowhere k depth rest b
    → (before : List ℕ) → IsAfter k depth before a → HasContinuation k depth (before ++ lines) → ⊥
reads_nowhere k depth lines rest a b are h some nowhere before first goes = elim whole [
  | inl none ↦ some none
  | inr (front, ends) ↦
      let (line, more, one, is) = first_cut front [] in
      nowhere (before ++ h.part) (h.so before first) line more one (ends ∙ is)
      (goes_on_before k depth ((before ++ h.part) ++ line ++ 10 ∷ []) more (subst (HasContinuation k depth) (ap (λ z. before ++ z) (h.is ∙ ap (λ z. h.part ++ z) (ends ∙ is)) ∙ regrouped before h.part line more) goes))
] where
  whole : AreLines rest
  whole = elim are [
    | inl none ↦ inl (nothing_behind h.part rest (sym h.is ∙ none))
    | inr (front, ends) ↦ lines_behind h.part rest front (sym h.is ∙ ends)
  ]

  regrouped : (x y z more : List ℕ) → x ++ (y ++ (z ++ 10 ∷ more)) ≡ ((x ++ y) ++ z ++ 10 ∷ []) ++ more
  regrouped x y z more = simp append_assoc

-- what reading found is what can be
was_read_or_not : (k : Look) → IsReadableWith k.pieces k.marker → (depth : ℕ) (lines : List ℕ) (goes : Bool) (d : OpenDrawing) → WasRead k depth lines goes d → (goes ≡ true) ↔ HasContinuation k depth lines
was_read_or_not k readable depth lines true d h = (λ _. after_goes_on k readable depth lines d h, λ _. refl)
was_read_or_not k readable depth lines false d never = (λ e. absurd (false≢true e), λ goes. absurd (never goes))

-- lines that were read leave what is after them
pub was_read : (k : Look) (depth : ℕ) (lines : List ℕ) (goes : Bool) (d : OpenDrawing) → WasRead k depth lines goes d → goes ≡ true → IsAfter k depth lines d
was_read k depth lines true d h e = h
was_read k depth lines false d never e = absurd (false≢true e)

-- of a copy it is said whether a line can follow
pub goes_on_if : {E : Type 0} (k : Look) → IsReadableWith k.pieces k.marker → (depth : ℕ) (part line text : List ℕ) (a b new : OpenDrawing) (r : Result Bool E) → text ≡ part ++ (line ++ 10 ∷ [])
    → ((before : List ℕ) → IsAfter k depth before a → IsAfter k depth before b) → IfOk r (λ goes. (before : List ℕ) → IsAfter k depth before b → WasRead k depth (before ++ text) goes new)
    → IfOk r (λ goes. (before : List ℕ) → IsAfter k depth before a → (goes ≡ true) ↔ IsFollowedBy k depth (before ++ part) line)
goes_on_if k readable depth part line text a b new (Err e) is copied read = tt
goes_on_if k readable depth part line text a b new (Ok goes) is copied read = λ before h.
    let whole : before ++ text ≡ (before ++ part) ++ (line ++ 10 ∷ []) = ap (λ z. before ++ z) is ∙ sym (append_assoc before part (line ++ 10 ∷ [])) in
    subst (λ z. (goes ≡ true) ↔ HasContinuation k depth z) whole (was_read_or_not k readable depth (before ++ text) goes new (read before (copied before h)))

-- behind lines with which no drawing begins, none can
pub follows_none : (k : Look) (depth : ℕ) (text whole part line : List ℕ) (goes : Bool) (d : OpenDrawing) → text ≡ whole ++ part → WasRead k depth whole goes d → goes ≡ false → IsFollowedBy k depth text line → ⊥
follows_none k depth text whole part line true d is h e goes = false≢true (sym e)
follows_none k depth text whole part line false d is never e goes =
    never (goes_on_before k depth whole (part ++ (line ++ 10 ∷ [])) (subst (HasContinuation k depth) (ap (λ z. z ++ (line ++ 10 ∷ [])) is ∙ append_assoc whole part (line ++ 10 ∷ [])) goes))

-- ## Flags

-- flags for the first of some texts say whether Is holds of them
abbrev pub AreFirstFlags : (List ℕ → Type 0) → List (List ℕ) → List Bool → Type 0
AreFirstFlags Is texts flags = (i : ℕ) → i < length flags → (get_or flags i false ≡ true) ↔ Is (get_or texts i [])

-- one flag more
pub first_flags_push : (Is : List ℕ → Type 0) (texts : List (List ℕ)) (flags : List Bool) (flag : Bool) → AreFirstFlags Is texts flags → (flag ≡ true) ↔ Is (get_or texts (length flags) []) → AreFirstFlags Is texts (flags ++ flag ∷ [])
first_flags_push Is texts flags flag h next i low = elim (cases_lt i (length flags)) [
  | inl less ↦ subst (λ z. (z ≡ true) ↔ Is (get_or texts i [])) (sym (get_or_append_left flags (flag ∷ []) false i less)) (h i less)
  | inr more ↦
      let at : length flags ≡ i = omega (arith, more, simp length-append at low) in
      subst (λ n. (get_or (flags ++ flag ∷ []) n false ≡ true) ↔ Is (get_or texts n [])) at (subst (λ z. (z ≡ true) ↔ Is (get_or texts (length flags) [])) (sym (get_or-append_seam flags flag [] false)) next)
]

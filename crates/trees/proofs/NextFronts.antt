-- Behind which passing pieces an item can follow whole lines.
use Rattle.trees.proofs.Common.{◌≡◌, ◌≢◌, ℕ, zero, suc, ◌<◌, ◌≤◌, ◌⊎◌, inl, inr, Bool, not, List, [], ◌∷◌, ◌++◌, length, length-append, refl, sym, ap, ◌∙◌, subst, append_assoc, append-nil, Contains, flat_map, arith, cases_lt, HasContinuation, Line, line, outline_at, IsReadableWith, ArePiecesAt, style_codes, start_codes, end_codes, IsPrefixOf, passing_all-push}
use Rattle.ptree.specs.Drawing.{Look, with_inserted, continued_prefix}
use Rattle.ptree.specs.Flags.{has_later, last_flags, pieces_by, passing_by}
use Rattle.ptree.specs.Pieces.{Pieces, turning_piece, passing_piece, passing_all}
use Rattle.ptree.specs.Reached.{lines_text}
use Rattle.ptree.proofs.Pieces.Prefixes.{same_pieces}
use Rattle.ptree.proofs.Reading.LastFlags.{length-last_flags}
use Rattle.ptree.proofs.Reading.Levels.{has_later_deeper, last_flags_same}
use Rattle.ptree.proofs.Reading.Markers.{turning_is_no_marker}
use Rattle.ptree.proofs.Reading.NextLines.{line_split, form_outline}
use Rattle.ptree.proofs.Reading.SpelledForms.{pieces_at}
use Rattle.ptree.proofs.Styles.PaintedTexts.{painted_plain}
use Rattle.trees.specs.Expected.{IsLastLine, EndsPieces, HasFronts}
use Rattle.trees.proofs.NextItems.{further, before, ContinuesNone, GoesOnAt, next_item, ShowsItem, last_shows}

-- passing pieces behind which a line lets an item follow: beside one that it is below, or below its own
abbrev pub Lets : Pieces → List ℕ → ℕ → List ℕ → Type 0
Lets p line n front =
    ((above : List Bool) × (length above ≡ n) × IsPrefixOf (passing_all p above) line × (front ≡ passing_all p above))
    ⊎ ((above : List Bool) × (last : Bool) × (suc (length above) ≡ n) × IsPrefixOf (passing_all p above ++ turning_piece p last) line × (front ≡ passing_all p (above ++ last ∷ [])))

-- these are among those that a line has
pub lets_front : (p : Pieces) (line : List ℕ) (fronts : List (List ℕ)) → HasFronts p line fronts → (n : ℕ) (front : List ℕ) → n < 32 → Lets p line n front → Contains fronts front
lets_front p line fronts h n front low (inl (above, len, shows, is)) = subst (Contains fronts) (sym is) (h.beside above (omega (arith, len)) shows)
lets_front p line fronts h n front low (inr (above, last, len, starts, is)) = subst (Contains fronts) (sym is) (h.below above last (omega (arith, len)) starts)

-- ## Looks without codes

-- a look has no codes
abbrev pub IsPlainLook : Look → Type 0
IsPlainLook k = (style_codes k.branch ≡ []) × (style_codes k.leaf ≡ [])

-- then the pieces alone are before an item's text
plain_before : (k : Look) → IsPlainLook k → (item : Line) (below : List Line) → before k item below ≡ pieces_by k.pieces below item.level
plain_before k plain item below =
    let pieces : List ℕ = pieces_by k.pieces below item.level in
    ap (λ z. z ++ start_codes k.leaf) (painted_plain k.branch pieces plain.0) ∙ (ap (λ cs. pieces ++ flat_map (λ code. code) cs) plain.1 ∙ append-nil pieces)

-- the drawing of an item begins with its pieces
line_begins : (k : Look) → IsPlainLook k → (item : Line) (below : List Line) → (y : List ℕ) × (lines_text k (item ∷ below) ≡ pieces_by k.pieces below item.level ++ y)
line_begins k plain item below =
    let y : List ℕ = with_inserted (further k item below) (item.text ++ end_codes k.leaf) ++ 10 ∷ lines_text k below in
    (y, line_split k item below ∙ ap (λ z. z ++ y) (plain_before k plain item below))

-- and the marker behind passing pieces before its further lines
plain_further : (k : Look) → IsPlainLook k → (passing : List ℕ) → continued_prefix k passing ≡ passing ++ k.marker
plain_further k plain passing = painted_plain k.branch (passing ++ k.marker) plain.0

-- ## The next item's passing pieces

-- the passing pieces of fewer levels begin those of more
fewer_flags : (p : Pieces) (o : List Line) (n m : ℕ) → n ≤ m → IsPrefixOf (passing_all p (last_flags o n)) (passing_all p (last_flags o m))
fewer_flags p o n zero low =
    let same : n ≡ zero = omega arith in
    ([], ap (λ k. passing_all p (last_flags o k)) (sym same) ∙ sym (append-nil (passing_all p (last_flags o n))))
fewer_flags p o n (suc m) low = elim (cases_lt m n) [
  | inl more ↦
      let same : n ≡ suc m = omega arith in
      ([], ap (λ k. passing_all p (last_flags o k)) (sym same) ∙ sym (append-nil (passing_all p (last_flags o n))))
  | inr few ↦
      let (z, is) = fewer_flags p o n m few in
      let b : Bool = not (has_later o (suc m)) in
      (z ++ passing_piece p b, passing_all-push p (last_flags o m) b ∙ (ap (λ y. y ++ passing_piece p b) is ∙ append_assoc (passing_all p (last_flags o n)) z (passing_piece p b)))
]

-- an item leaves the flags above it as they are
flags_above : (next : Line) (after : List Line) (n : ℕ) → next.level ≡ suc n → last_flags (next ∷ after) n ≡ last_flags after n
flags_above next after n is = last_flags_same (next ∷ after) after n (λ m low. has_later_deeper next after m (omega (arith, is)))

-- an item that is beside one that the line is below
beside_front : (p : Pieces) (next : Line) (after : List Line) (n m : ℕ) → next.level ≡ suc n → n ≤ m → (line tail : List ℕ) → line ≡ passing_all p (last_flags (next ∷ after) m) ++ tail
    → Lets p line n (passing_all p (last_flags after n))
beside_front p next after n m is low line tail e =
    let flags : List Bool = last_flags (next ∷ after) n in
    let (z, begins) = fewer_flags p (next ∷ after) n m low in
    inl (
      flags,
      length-last_flags (next ∷ after) n,
      (z ++ tail, e ∙ (ap (λ y. y ++ tail) begins ∙ append_assoc (passing_all p flags) z tail)),
      ap (passing_all p) (sym (flags_above next after n is)),
    )

-- an item after the own line of one at a level
own_front : (p : Pieces) (next : Line) (after : List Line) (n m : ℕ) → next.level ≡ suc n → n ≤ m → 0 < m → (line v : List ℕ) → line ≡ pieces_by p (next ∷ after) m ++ v → Lets p line n (passing_all p (last_flags after n))
own_front p next after n zero is high low line v e = absurd (omega arith)
own_front p next after n (suc m) is high low line v e =
    let below : List Line = next ∷ after in
    let b : Bool = not (has_later below (suc m)) in
    elim (cases_lt m n) [
      | inl child ↦
          let same : n ≡ suc m = omega arith in
          let front : passing_all p (last_flags after n) ≡ passing_all p (last_flags below m ++ b ∷ []) = ap (passing_all p) (sym (flags_above next after n is) ∙ ap (last_flags below) same) in
          inr (last_flags below m, b, omega (arith, length-last_flags below m), (v, e), front)
      | inr beside ↦ beside_front p next after n m is beside line (turning_piece p b ++ v) (e ∙ append_assoc (passing_all p (last_flags below m)) (turning_piece p b) v)
    ]

-- an item after the last line of whole ones
next_front : (k : Look) → IsPlainLook k → (item next : Line) (after : List Line) (n : ℕ) (line : List ℕ) → next.level ≡ suc n → n ≤ item.level → ShowsItem k item (next ∷ after) line
    → Lets k.pieces line n (passing_all k.pieces (last_flags after n))
next_front k plain item next after n line is high (inl (root, none)) =
    let top : n ≡ 0 = omega (arith, root, high) in
    subst (λ m. Lets k.pieces line m (passing_all k.pieces (last_flags after m))) (sym top) (inl ([], refl, (line, refl), refl))
next_front k plain item next after n line is high (inr (inl (v, low, own))) =
    own_front k.pieces next after n item.level is high low line v (own ∙ ap (λ z. z ++ v) (plain_before k plain item (next ∷ after)))
next_front k plain item next after n line is high (inr (inr (v, other))) =
    let passing : List ℕ = passing_by k.pieces (next ∷ after) item.level in
    beside_front k.pieces next after n item.level is high line (k.marker ++ v) (other ∙ (ap (λ z. z ++ v) (plain_further k plain passing) ∙ append_assoc passing k.marker v))

-- ## Beginnings

-- the pieces of an item begin no further line
continues_none : (k : Look) → IsReadableWith k.pieces k.marker → IsPlainLook k → (n : ℕ) (text rest : List ℕ) → ArePiecesAt k.pieces (suc n) text → ContinuesNone k (text ++ rest)
continues_none k r plain n text rest at m passing z are e =
    turning_is_no_marker k.pieces k.marker r at.0 are.0 at.1 rest z
    (ap (λ y. y ++ rest) (sym at.3) ∙ (e ∙ ap (λ y. y ++ z) (plain_further k plain passing ∙ ap (λ y. y ++ k.marker) are.2)))

-- the pieces of an item with which a drawing goes on are behind such passing pieces
pub record IsLet (p : Pieces) (line : List ℕ) (level : ℕ) (text : List ℕ) : Type 0 where
  pub n : ℕ
  pub level_is : level ≡ suc n
  pub front : List ℕ
  pub lets : Lets p line n front
  pub ends : EndsPieces p front text

-- the item that follows whole lines
next_let : (k : Look) → IsReadableWith k.pieces k.marker → IsPlainLook k → (first : Line) (a shown rest : List ℕ) → first.level ≡ 0 → IsLastLine a shown → (n : ℕ) (text : List ℕ) → ArePiecesAt k.pieces (suc n) text
    → GoesOnAt k first a (text ++ rest) → IsLet k.pieces shown (suc n) text
next_let k r plain first a shown rest root last n text at g =
    let p : Pieces = k.pieces in
    let (y, parts) = line_begins k plain g.next g.after in
    let same = same_pieces p r.pieces (suc n) g.next.level text (pieces_by p g.after g.next.level) at (pieces_at p g.after g.next.level g.low) rest y (g.rest_is ∙ parts) in
    let high : n ≤ g.item.level = let next = same.level in let most = g.high in omega (arith, next, most) in
    record {
      n = n;
      level_is = refl;
      front = passing_all p (last_flags g.after n);
      lets = next_front k plain g.item g.next g.after n shown (sym same.level) high (last_shows k r first a (text ++ rest) shown root last g);
      ends = (not (has_later g.after (suc n)), same.pieces ∙ ap (pieces_by p g.after) (sym same.level));
    }

-- a drawing that goes on with such pieces lets an item follow there
pub each_let : (k : Look) → IsReadableWith k.pieces k.marker → IsPlainLook k → (depth : ℕ) (a line : List ℕ) → IsLastLine a line → (level : ℕ) (text : List ℕ) → ArePiecesAt k.pieces level text
    → HasContinuation k depth ((a ++ 10 ∷ []) ++ (text ++ 120 ∷ 10 ∷ [])) → IsLet k.pieces line level text
each_let k r plain depth a shown last zero text at goes = absurd at
each_let k r plain depth a shown last (suc n) text at (t, rest, form) =
    let x : List ℕ = 120 ∷ 10 ∷ rest in
    let (whole, valid) = form_outline k depth (((a ++ 10 ∷ []) ++ (text ++ 120 ∷ 10 ∷ [])) ++ rest) t form in
    let root : Line = line 0 t.text in
    let cut : a ++ 10 ∷ (text ++ x) ≡ lines_text k (root ∷ outline_at 1 t.children) = sym (groups a text rest) ∙ whole in
    let some : text ++ x ≢ [] = λ e. let long = ap length e in omega (arith, simp length-append at long) in
    next_let k r plain root a shown x refl last n text at (next_item k r a (text ++ x) (continues_none k r plain n text x at) some root (outline_at 1 t.children) valid.1 cut)
  where
    groups : (a text rest : List ℕ) → ((a ++ 10 ∷ []) ++ (text ++ 120 ∷ 10 ∷ [])) ++ rest ≡ a ++ 10 ∷ (text ++ 120 ∷ 10 ∷ rest)
    groups a text rest = simp append_assoc

-- An item's own line continues the open items.
use Rattle.std.proofs.Common.{◌≡◌, ℕ, suc, ◌<◌, inl, inr, not, List, [], ◌∷◌, ◌++◌, length, take, get_or, refl, sym, ap, ◌∙◌, subst, append_assoc, add-one, arith}
use Rattle.std.proofs.Math.Seq.{get_or-append_seam}
use Rattle.std.proofs.lemmas.Bool.{cases_lt, eq-eqb, ne_eqb}
use Rattle.std.proofs.lemmas.List.{length_push, get_or-take, length-take-le, get_or_append_left}
use Rattle.ptree.specs.declared.read.lines.Flags.{Flags}
use Rattle.ptree.specs.Drawing.{Look}
use Rattle.ptree.specs.Flags.{has_later, last_flags, pieces_by, passing_by}
use Rattle.ptree.specs.Outline.{Line, line}
use Rattle.ptree.specs.Pieces.{Pieces, turning_piece}
use Rattle.ptree.specs.Reached.{allows, any_flags, Allows, IsCutTo, AreSome, ArePath, IsFound, CanClose, CutsPieces, IsOwnLine}
use Rattle.ptree.specs.Readable.{IsReadableWith}
use Rattle.ptree.specs.Spelled.{ArePiecesAt}
use Rattle.ptree.specs.Style.{start_codes, end_codes}
use Rattle.ptree.specs.Texts.{HasNoLineFeed}
use Rattle.ptree.proofs.Reading.LastFlags.{length-last_flags}
use Rattle.ptree.proofs.Reading.Levels.{has_later_deeper, has_later_here}
use Rattle.ptree.proofs.Reading.Markers.{passings_once, own_prefix_split}
use Rattle.ptree.proofs.Reading.OpenItems.{some_flag, allows_any, passing_deeper}

-- the parts of an item's own line
pub record OwnParts (k : Look) (x text rest turned own more : List ℕ) (flags : Flags) : Type 0 where
  pub is : x ≡ start_codes k.branch ++ text
  pub cut : IsCutTo (turning_piece k.pieces) any_flags rest flags turned
  pub turned_is : turned ≡ end_codes k.branch ++ (start_codes k.leaf ++ (own ++ 10 ∷ more))
  pub one : HasNoLineFeed own

module _ (k : Look) (readable : IsReadableWith k.pieces k.marker) (depth : ℕ) (fs new fs' : List Flags) (x text shown rest turned own more : List ℕ) (n : ℕ) (flags : Flags)
    (h : IsFound k.pieces fs new text shown rest n) (parts : OwnParts k x text rest turned own more flags) (deep : n < depth) (can : CanClose n new) (fs_is : fs' ≡ take n new ++ flags ∷ []) where
  abbrev p : Pieces
  p = k.pieces

  abbrev cut : IsCutTo (turning_piece p) any_flags rest flags turned
  cut = parts.cut

  abbrev turn : List ℕ
  turn = turning_piece p cut.last

  -- the open items are those above, and the new one
  short : length (take n new) ≡ n
  short =
      let enough = h.enough in
      let count = h.count in
      length-take-le n new (omega (arith, enough, count))

  size : length fs' ≡ suc n
  size = ap length fs_is ∙ (length_push (take n new) flags ∙ (add-one (length (take n new)) ∙ ap suc short))

  left : (m : ℕ) → m < n → get_or fs' m any_flags ≡ get_or new m any_flags
  left m l = ap (λ z. get_or z m any_flags) fs_is ∙ (get_or_append_left (take n new) (flags ∷ []) any_flags m (omega (arith, l, short)) ∙ get_or-take n new m any_flags l)

  last : get_or fs' n any_flags ≡ flags
  last = ap (λ z. get_or z n any_flags) fs_is ∙ (ap (λ z. get_or (take n new ++ flags ∷ []) z any_flags) (sym short) ∙ get_or-append_seam (take n new) flags [] any_flags)

  -- what has the pieces of the line has its passing pieces and its turning piece
  same_parts : (o : List Line) → pieces_by p o (suc n) ≡ shown ++ turn → (passing_by p o n ≡ shown) × (turning_piece p (not (has_later o (suc n))) ≡ turn)
  same_parts o e =
      let (above, len, shown_is) = h.are_passing in
      let same = passings_once p readable.pieces (last_flags o n) above (turning_piece p (not (has_later o (suc n)))) turn (length-last_flags o n ∙ sym len) (e ∙ ap (λ z. z ++ turn) shown_is) in
      (same.0 ∙ sym shown_is, same.1)

  -- what the new flags allow, those before allow behind the line
  allowed_before : (o : List Line) → Allows fs' o → Allows new (line (suc n) [] ∷ o)
  allowed_before o a m l = elim (cases_lt m n) [
    | inl less ↦
        let later = has_later_deeper (line (suc n) []) o (suc m) (omega arith) in
        ap (λ z. allows (get_or new m any_flags) (not z)) later ∙ (ap (λ z. allows z (not (has_later o (suc m)))) (sym (left m less)) ∙ a m (omega (arith, size, less)))
    | inr more ↦ elim (cases_lt n m) [
      | inl past ↦ ap (λ z. allows (get_or new m any_flags) (not z)) (has_later_here (line (suc n) []) o (suc m) (omega arith) ∙ ne_eqb (suc m) (suc n) (omega arith)) ∙ can.below m past l
      | inr most ↦
          let level : m ≡ n = omega arith in
          ap (λ z. allows (get_or new m any_flags) (not z)) (has_later_here (line (suc n) []) o (suc m) (omega arith) ∙ eq-eqb (suc m) (suc n) (omega arith))
          ∙ (ap (λ z. (get_or new z any_flags).regular) level ∙ can.beside (omega (arith, l, level)))
    ]
  ]

  -- and the other way round, if the turning piece is that of the line
  allowed_then : (o : List Line) → Allows new (line (suc n) [] ∷ o) → turning_piece p (not (has_later o (suc n))) ≡ turn → Allows fs' o
  allowed_then o kept same m l =
      let enough = h.enough in
      let count = h.count in
      elim (cases_lt m n) [
        | inl less ↦
            let later = has_later_deeper (line (suc n) []) o (suc m) (omega arith) in
            ap (λ z. allows z (not (has_later o (suc m)))) (left m less) ∙ (ap (λ z. allows (get_or new m any_flags) (not z)) (sym later) ∙ kept m (omega (arith, less, enough, count)))
        | inr more ↦
            let level : m ≡ n = omega (arith, l, size) in
            ap (λ z. allows (get_or fs' z any_flags) (not (has_later o (suc z)))) level ∙ (ap (λ z. allows z (not (has_later o (suc n)))) last
            ∙ (cut.kept (not (has_later o (suc n)))).1 (allows_any (not (has_later o (suc n))), same))
      ]

  -- so the line cuts what may follow to what has its pieces
  own_cuts : CutsPieces p fs (suc n) (shown ++ turn) fs'
  own_cuts o = (
    λ a.
        let both = (h.cut (line (suc n) [] ∷ o)).0 (allowed_before o a) in
        let kept = (cut.kept (not (has_later o (suc n)))).0 (ap (λ z. allows z (not (has_later o (suc n)))) (sym last) ∙ a n (omega (arith, size))) in
        (both.0, ap (λ z. z ++ turning_piece p (not (has_later o (suc n)))) (sym (passing_deeper p n o) ∙ both.1) ∙ ap (λ z. shown ++ z) kept.1),
    λ both.
        let same = same_parts o both.1 in
        allowed_then o ((h.cut (line (suc n) [] ∷ o)).1 (both.0, passing_deeper p n o ∙ same.0)) same.1,
  )

  -- each open item may be followed by something
  own_some : AreSome fs'
  own_some m l =
      let enough = h.enough in
      let count = h.count in
      elim (cases_lt m n) [
        | inl less ↦ ap (λ z. allows z z.last) (left m less) ∙ h.some m (omega (arith, less, enough, count))
        | inr more ↦
            let level : m ≡ n = omega (arith, l, size) in
            ap (λ z. allows (get_or fs' z any_flags) (get_or fs' z any_flags).last) level ∙ (ap (λ z. allows z z.last) last ∙ some_flag flags cut.last ((cut.kept cut.last).1 (allows_any cut.last, refl)))
      ]

  -- an item's own line, from its parts
  pub own_line_from_parts : IsOwnLine k depth fs x own more fs' × ArePath p fs' n shown
  own_line_from_parts =
      let (above, len, shown_is) = h.are_passing in
      let enough = h.enough in (
        record {
          pieces = shown ++ turn;
          one = parts.one;
          low = omega (arith, size);
          high = omega (arith, size, enough);
          deep = omega (arith, size, deep);
          are_pieces = subst (λ z. ArePiecesAt p z (shown ++ turn)) (sym size) (above, cut.last, len, ap (λ z. z ++ turn) shown_is);
          text_is = parts.is ∙ (ap (λ z. start_codes k.branch ++ z) (h.text_is ∙ (ap (λ z. shown ++ z) (cut.text_is ∙ ap (λ z. turn ++ z) parts.turned_is) ∙ sym (append_assoc shown turn _)))
              ∙ sym (own_prefix_split k (shown ++ turn) (own ++ 10 ∷ more)));
          cuts = subst (λ z. CutsPieces p fs z (shown ++ turn) fs') (sym size) own_cuts;
        },
        record {
          enough = omega (arith, size);
          near = omega (arith, size);
          some = own_some;
          same = λ m l r t. h.same m l (ap (λ (f : Flags). f.regular) (sym (left m l)) ∙ r) (ap (λ (f : Flags). f.last) (sym (left m l)) ∙ t);
          shown_is = λ o a. (same_parts o ((own_cuts o).0 a).1).0;
        },
      )

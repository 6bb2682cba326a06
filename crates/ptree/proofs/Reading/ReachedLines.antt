-- What a reader knows of the whole lines at the start of a text, line by line.
use Rattle.std.proofs.Common.{◌≡◌, ℕ, zero, suc, ◌<◌, ◌≤◌, ◌⊎◌, inl, inr, List, [], ◌∷◌, ◌++◌, length, length-append, refl, sym, ap, ◌∙◌, subst, append_assoc, arith}
use Rattle.std.proofs.lemmas.List.{append_cancel_left, append_cancel_right}
use Rattle.ptree.specs.declared.read.lines.Flags.{Flags}
use Rattle.ptree.specs.Drawing.{Look, with_inserted, continued_prefix}
use Rattle.ptree.specs.Flags.{pieces_by, passing_by, spelled_by}
use Rattle.ptree.specs.Outline.{Line, line}
use Rattle.ptree.specs.Pieces.{Pieces, passing_all}
use Rattle.ptree.specs.Reached.{Allows, IsOpen, IsOutlineWithin, lines_text, own_prefix, Follows, IsLeft, Reached, CutsPassing, CutsPieces}
use Rattle.ptree.specs.Readable.{IsReadableWith}
use Rattle.ptree.specs.Spelled.{ArePiecesAt, ArePassing}
use Rattle.ptree.specs.Style.{start_codes, end_codes}
use Rattle.ptree.specs.Texts.{HasNoLineFeed}
use Rattle.ptree.proofs.Reading.Markers.{continued_prefix_parts, own_prefix_split, further_prefix_once, turning_is_no_marker, items_do_not_continue}
use Rattle.ptree.proofs.Reading.NextLines.{first_line_of_inserted, inserted_from_first_line, line_split, own_line, own_line_more, own_line_is_prefix, own_line_then_rest, valid_below, valid_more, push_assoc, moved_assoc}
use Rattle.ptree.proofs.Pieces.Prefixes.{same_pieces}
use Rattle.ptree.proofs.Reading.SpelledForms.{are_spelled_by, pieces_at, passing_at}

-- ## The root's line

-- what is known after the root's first line
pub root_reached : (k : Look) (depth : ℕ) (own : List ℕ) → HasNoLineFeed own → Reached k depth (own_line k [] own) [] 0 own []
root_reached k depth own h = record {
  count = refl;
  is_open = ([], λ n low. absurd (omega (arith, low)));
  valid = λ text. (refl, tt, tt);
  to = to;
  from = λ o more (below, text, is, allowed, follows). own_line_then_rest k 0 [] own more text below h refl follows ∙ ap (lines_text k) (sym is);
} where
  to : (o : List Line) (more : List ℕ) → IsOutlineWithin depth o → own_line k [] own ++ more ≡ lines_text k o → IsLeft k [] 0 own [] o more
  to [] more valid e = absurd valid
  to (l ∷ below) more valid e =
      let here : l ≡ line 0 l.text = ap (λ z. line z l.text) valid.0 in
      (below, l.text, ap (λ z. z ∷ below) here, λ n low. absurd (omega (arith, low)), own_line_is_prefix k 0 [] own more l.text below h refl (e ∙ ap (λ z. lines_text k (z ∷ below)) here))

-- ## A further line

-- a further line and its line feed, regrouped
further_more : (k : Look) (passing own more : List ℕ) → (continued_prefix k passing ++ own ++ 10 ∷ []) ++ more ≡ continued_prefix k passing ++ (own ++ 10 ∷ more)
further_more k passing own more = moved_assoc (continued_prefix k passing) own more

-- what is known after a further line
pub further_reached : (k : Look) → IsReadableWith k.pieces k.marker → (depth : ℕ) (prefix : List ℕ) (lines : List Line) (level : ℕ) (own more_own passing : List ℕ) (fs fs' : List Flags)
    → Reached k depth prefix lines level own fs → HasNoLineFeed more_own → ArePassing k.pieces level passing → CutsPassing k.pieces fs level passing fs' → IsOpen fs' → length fs' ≡ level
    → Reached k depth (prefix ++ (continued_prefix k passing ++ more_own ++ 10 ∷ [])) lines level (own ++ 10 ∷ more_own) fs'
further_reached k readable depth prefix lines level own more_own passing fs fs' h one are cuts some count =
    record { count = count; is_open = some; valid = h.valid; to = to; from = from } where
      p : Pieces
      p = k.pieces

      new : List ℕ
      new = continued_prefix k passing ++ more_own ++ 10 ∷ []

      longer : (v : List ℕ) → own ++ 10 ∷ (more_own ++ 10 ∷ v) ≡ (own ++ 10 ∷ more_own) ++ 10 ∷ v
      longer v = simp append_assoc

      to : (o : List Line) (more : List ℕ) → IsOutlineWithin depth o → (prefix ++ new) ++ more ≡ lines_text k o → IsLeft k lines level (own ++ 10 ∷ more_own) fs' o more
      to o more valid e =
          let (below, text, is, allowed, follows) = h.to o (new ++ more) valid (sym (append_assoc prefix new more) ∙ e) in
          at below text is allowed follows
        where
          at : (below : List Line) (text : List ℕ) → o ≡ lines ++ line level text ∷ below → Allows fs below → Follows k level own text below (new ++ more)
              → IsLeft k lines level (own ++ 10 ∷ more_own) fs' o more
          at below text is allowed (inl s) =
              let rest = valid_below depth lines (line level text) below (subst (IsOutlineWithin depth) is valid) in
              absurd (items_do_not_continue k readable level (spelled_by p below) (are_spelled_by p level below rest.0) passing (more_own ++ 10 ∷ more) are (sym s.1 ∙ further_more k passing more_own more))
          at below text is allowed (inr s) =
              let further : List ℕ = continued_prefix k (passing_by p below level) in
              let same = further_prefix_once k readable.pieces level passing (passing_by p below level) (more_own ++ 10 ∷ more) (with_inserted further s.0 ++ 10 ∷ lines_text k below) are (passing_at p below level)
              (sym (further_more k passing more_own more) ∙ (s.2 ∙ append_assoc further (with_inserted further s.0) (10 ∷ lines_text k below))) in (
                below,
                text,
                is,
                (cuts below).1 (allowed, sym same.0),
                elim (first_line_of_inserted further more_own more s.0 (lines_text k below) one same.1) [
                  | inl f ↦ inl (ap (λ z. own ++ 10 ∷ z) f.0 ∙ sym s.1, f.1)
                  | inr f ↦ inr (f.0, s.1 ∙ (ap (λ z. own ++ 10 ∷ z) f.1 ∙ longer f.0), f.2)
                ],
              )

      from : (o : List Line) (more : List ℕ) → IsLeft k lines level (own ++ 10 ∷ more_own) fs' o more → (prefix ++ new) ++ more ≡ lines_text k o
      from o more (below, text, is, allowed, follows) =
          let (kept, passes) = (cuts below).0 allowed in
          let further : List ℕ = continued_prefix k (passing_by p below level) in
          let left : (v : List ℕ) → ((more_own ≡ v) × (more ≡ lines_text k below)) ⊎ ((u : List ℕ) × (v ≡ more_own ++ 10 ∷ u) × (more ≡ further ++ with_inserted further u ++ 10 ∷ lines_text k below))
          → new ++ more ≡ further ++ with_inserted further v ++ 10 ∷ lines_text k below =
          λ v f. further_more k passing more_own more ∙ (ap (λ z. continued_prefix k z ++ (more_own ++ 10 ∷ more)) (sym passes)
          ∙ (ap (λ z. further ++ z) (inserted_from_first_line further more_own more v (lines_text k below) one f) ∙ sym (append_assoc further (with_inserted further v) (10 ∷ lines_text k below)))) in
          append_assoc prefix new more ∙ h.from o (new ++ more) (
            below,
            text,
            is,
            kept,
            elim follows [
              | inl s ↦ inr (more_own, sym s.0, left more_own (inl (refl, s.1)))
              | inr s ↦ inr (more_own ++ 10 ∷ s.0, s.1 ∙ sym (longer s.0), left (more_own ++ 10 ∷ s.0) (inr (s.0, refl, s.2)))
            ],
          )

-- ## An item's own line

-- an item's own line is not a further one
pub own_is_not_further : (k : Look) → IsReadableWith k.pieces k.marker → (n m : ℕ) (pieces passing x y : List ℕ) → ArePiecesAt k.pieces m pieces → ArePassing k.pieces n passing → own_prefix k pieces ++ x ≡ continued_prefix k passing ++ y → ⊥
own_is_not_further k h n zero pieces passing x y at are e = absurd at
own_is_not_further k h n (suc m) pieces passing x y (above, last, len, is) (above', len', is') e =
    let whole : start_codes k.branch ++ (pieces ++ (end_codes k.branch ++ (start_codes k.leaf ++ x))) ≡ start_codes k.branch ++ (passing ++ (k.marker ++ (end_codes k.branch ++ y))) =
    sym (own_prefix_split k pieces x) ∙ (e ∙ continued_prefix_parts k passing y) in
    let start : pieces ++ (end_codes k.branch ++ (start_codes k.leaf ++ x)) ≡ passing ++ (k.marker ++ (end_codes k.branch ++ y)) = append_cancel_left (start_codes k.branch) _ _ whole in
    turning_is_no_marker k.pieces k.marker h above above' last (end_codes k.branch ++ (start_codes k.leaf ++ x)) (end_codes k.branch ++ y)
    (ap (λ z. z ++ (end_codes k.branch ++ (start_codes k.leaf ++ x))) (sym is) ∙ (start ∙ (ap (λ z. z ++ (k.marker ++ (end_codes k.branch ++ y))) is'
    ∙ sym (append_assoc (passing_all k.pieces above') k.marker (end_codes k.branch ++ y)))))

-- whole lines and more are not empty
pub whole_lines_not_empty : (a more : List ℕ) → (a ++ 10 ∷ []) ++ more ≡ [] → ⊥
whole_lines_not_empty a more e = let long = ap length e in omega (arith, simp length-append at long)

-- what is known after an item's own line
pub own_reached : (k : Look) → IsReadableWith k.pieces k.marker → (depth : ℕ) (prefix : List ℕ) (lines : List Line) (level : ℕ) (own text pieces new_own : List ℕ) (n : ℕ) (fs fs' : List Flags)
    → Reached k depth prefix lines level own fs → own ≡ text ++ end_codes k.leaf → HasNoLineFeed new_own → 0 < n → n ≤ suc level → n ≤ depth → ArePiecesAt k.pieces n pieces
    → CutsPieces k.pieces fs n pieces fs' → IsOpen fs' → length fs' ≡ n
    → Reached k depth (prefix ++ own_line k pieces new_own) (lines ++ line level text ∷ []) n new_own fs'
own_reached k readable depth prefix lines level own text pieces new_own n fs fs' h closed one low high deep at cuts some count =
    record { count = count; is_open = some; valid = valid'; to = to; from = from } where
      p : Pieces
      p = k.pieces

      new : List ℕ
      new = own_line k pieces new_own

      valid' : (t : List ℕ) → IsOutlineWithin depth ((lines ++ line level text ∷ []) ++ line n t ∷ [])
      valid' t = subst (IsOutlineWithin depth) (sym (push_assoc lines (line level text) (line n t ∷ []))) (valid_more depth lines (line level text) (line n t ∷ []) (h.valid text) (low, high, tt) (deep, tt))

      to : (o : List Line) (more : List ℕ) → IsOutlineWithin depth o → (prefix ++ new) ++ more ≡ lines_text k o → IsLeft k (lines ++ line level text ∷ []) n new_own fs' o more
      to o more valid e =
          let (below, text2, is, allowed, follows) = h.to o (new ++ more) valid (sym (append_assoc prefix new more) ∙ e) in
          which below text2 is allowed follows
        where
          which : (below : List Line) (text2 : List ℕ) → o ≡ lines ++ line level text2 ∷ below → Allows fs below → Follows k level own text2 below (new ++ more)
              → IsLeft k (lines ++ line level text ∷ []) n new_own fs' o more
          which below text2 is allowed (inr s) =
              let further : List ℕ = continued_prefix k (passing_by p below level) in
              absurd (own_is_not_further k readable level n pieces (passing_by p below level) (new_own ++ 10 ∷ more) (with_inserted further s.0 ++ 10 ∷ lines_text k below) at (passing_at p below level)
              (sym (own_line_more k pieces new_own more) ∙ (s.2 ∙ append_assoc further (with_inserted further s.0) (10 ∷ lines_text k below))))
          which [] text2 is allowed (inl s) = absurd (whole_lines_not_empty (own_prefix k pieces ++ new_own) more s.1)
          which (l ∷ o') text2 is allowed (inl s) =
              let texts : text2 ≡ text = append_cancel_right text2 text (end_codes k.leaf) (sym s.0 ∙ closed) in
              let rest = valid_below depth lines (line level text2) (l ∷ o') (subst (IsOutlineWithin depth) is valid) in
              let there : List ℕ = pieces_by p o' l.level in
              let y : List ℕ = with_inserted (continued_prefix k (passing_by p o' l.level)) (l.text ++ end_codes k.leaf) ++ 10 ∷ lines_text k o' in
              let whole : start_codes k.branch ++ (pieces ++ (end_codes k.branch ++ (start_codes k.leaf ++ (new_own ++ 10 ∷ more)))) ≡ start_codes k.branch ++ (there ++ (end_codes k.branch ++ (start_codes k.leaf ++ y))) =
              sym (own_prefix_split k pieces (new_own ++ 10 ∷ more)) ∙ (sym (own_line_more k pieces new_own more) ∙ (s.1 ∙ (line_split k l o' ∙ own_prefix_split k there y))) in
              let same = same_pieces p readable.pieces n l.level pieces there at (pieces_at p o' l.level rest.0.0) _ _ (append_cancel_left (start_codes k.branch) _ _ whole) in
              let level_is : l.level ≡ n = sym same.level in
              let here : l ≡ line n l.text = ap (λ z. line z l.text) level_is in
              let pieces_is : pieces ≡ pieces_by p o' n = same.pieces ∙ ap (pieces_by p o') level_is in
              let leaves : Allows fs (line n [] ∷ o') = subst (λ z. Allows fs (z ∷ o')) here allowed in (
                o',
                l.text,
                is ∙ (ap (λ z. lines ++ line level z ∷ l ∷ o') texts ∙ (ap (λ z. lines ++ line level text ∷ z ∷ o') here ∙ sym (push_assoc lines (line level text) (line n l.text ∷ o')))),
                (cuts o').1 (leaves, sym pieces_is),
                own_line_is_prefix k n pieces new_own more l.text o' one pieces_is (s.1 ∙ ap (λ z. lines_text k (z ∷ o')) here),
              )

      from : (o : List Line) (more : List ℕ) → IsLeft k (lines ++ line level text ∷ []) n new_own fs' o more → (prefix ++ new) ++ more ≡ lines_text k o
      from o more (below, text', is, allowed, follows) =
          let (kept, pieces_is) = (cuts below).0 allowed in
          append_assoc prefix new more ∙ h.from o (new ++ more) (
            line n text' ∷ below,
            text,
            is ∙ push_assoc lines (line level text) (line n text' ∷ below),
            kept,
            inl (closed, own_line_then_rest k n pieces new_own more text' below one (sym pieces_is) follows),
          )

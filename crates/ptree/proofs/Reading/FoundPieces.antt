-- The passing pieces at the start of a line restrict the flags of the open items.
use Rattle.std.proofs.Common.{◌≡◌, ◌≢◌, ℕ, suc, ◌+◌, ◌<◌, ◌≤◌, inl, inr, Bool, true, false, not, List, ◌++◌, length, set, get_or, length-set, get_or-set_same, get_or-set_other, refl, sym, ap, ◌∙◌, subst, append_assoc, arith}
use Rattle.std.specs.Prelude.{◌↔◌}
use Rattle.std.proofs.lemmas.Bool.{cases_lt, cases_eq}
use Rattle.std.proofs.lemmas.List.{append_cancel_left, append_cancel_right}
use Rattle.ptree.specs.declared.read.lines.Flags.{Flags}
use Rattle.ptree.specs.Flags.{has_later, last_flags, passing_by}
use Rattle.ptree.specs.Outline.{Line}
use Rattle.ptree.specs.Pieces.{Pieces, passing_piece, passing_all}
use Rattle.ptree.specs.Reached.{allows, any_flags, Allows, NoPiece, IsCutTo, AreSome, ArePath, ArePassed, IsFound}
use Rattle.ptree.specs.Readable.{ArePrefixFree, IsReadable}
use Rattle.ptree.proofs.Reading.LastFlags.{length-last_flags}
use Rattle.ptree.proofs.Reading.Markers.{passings_once}
use Rattle.ptree.proofs.Pieces.Prefixes.{apart_not_both_starts}
use Rattle.ptree.proofs.Reading.OpenItems.{open_lines, some_flag, passing_push, passing_split, cut_flags, passing_parts}

-- ## What was found

-- pieces that the open items may have, followed by something apart from passing pieces, are those
-- that were found
pub found_at : (p : Pieces) → IsReadable p → (fs new : List Flags) (text shown rest : List ℕ) (n : ℕ) → IsFound p fs new text shown rest n
    → (m : ℕ) (o : List Line) (s z : List ℕ) → m ≤ length fs → Allows fs o → ((b : Bool) → ArePrefixFree s (passing_piece p b)) → text ≡ passing_by p o m ++ (s ++ z)
    → (n ≡ m) × (passing_by p o m ≡ shown) × (rest ≡ s ++ z)
found_at p readable fs new text shown rest n h m o s z high allowed apart e =
    let (above, len, is) = h.are_passing in
    let whole : passing_all p above ++ rest ≡ passing_by p o m ++ (s ++ z) = ap (λ y. y ++ rest) (sym is) ∙ (sym h.text_is ∙ e) in
    elim (cases_lt n m) [
      | inl less ↦
          let (t, split) = passing_split p o n m less in
          let b : Bool = not (has_later o (suc n)) in
          let moved : passing_all p above ++ rest ≡ passing_by p o n ++ (passing_piece p b ++ (t ++ (s ++ z))) =
          whole ∙ (ap (λ y. y ++ (s ++ z)) split ∙ regrouped (passing_by p o n) (passing_piece p b) t (s ++ z)) in
          let same = passings_once p readable above (last_flags o n) rest (passing_piece p b ++ (t ++ (s ++ z))) (len ∙ sym (length-last_flags o n)) moved in
          absurd (h.no_more (omega arith) o (t ++ (s ++ z)) ((h.cut o).1 (allowed, sym same.0 ∙ sym is)) same.1)
      | inr more ↦ elim (cases_lt m n) [
        | inl less ↦
            let (a, b, c, size, parts) = cut_flags m above (omega (arith, len)) in
            let moved : passing_all p a ++ ((passing_piece p b ++ passing_all p c) ++ rest) ≡ passing_by p o m ++ (s ++ z) =
            sym (append_assoc (passing_all p a) (passing_piece p b ++ passing_all p c) rest) ∙ (ap (λ y. y ++ rest) (sym (passing_parts p a b c) ∙ ap (passing_all p) (sym parts)) ∙ whole) in
            let same = passings_once p readable a (last_flags o m) ((passing_piece p b ++ passing_all p c) ++ rest) (s ++ z) (size ∙ sym (length-last_flags o m)) moved in
            absurd (apart_not_both_starts s (passing_piece p b) z (passing_all p c ++ rest) (apart b) (sym same.1 ∙ append_assoc (passing_piece p b) (passing_all p c) rest))
        | inr most ↦
            let level : n ≡ m = omega arith in
            let same = passings_once p readable above (last_flags o m) rest (s ++ z) (len ∙ (level ∙ sym (length-last_flags o m))) whole in
            (level, sym same.0 ∙ sym is, same.1)
      ]
    ]
  where
    regrouped : (a b t c : List ℕ) → (a ++ (b ++ t)) ++ c ≡ a ++ (b ++ (t ++ c))
    regrouped a b t c = simp append_assoc

-- what was found, under equal names
found_moved : (p : Pieces) (fs new new' : List Flags) (text shown rest : List ℕ) (n n' : ℕ) → IsFound p fs new text shown rest n → new' ≡ new → n' ≡ n → IsFound p fs new' text shown rest n'
found_moved p fs new new' text shown rest n n' h e f = subst (λ z. IsFound p fs new' text shown rest z) (sym f) (subst (λ z. IsFound p fs z text shown rest n) (sym e) h)

-- no piece more was found
pub found_same : (p : Pieces) (fs new : List Flags) (count n n' : ℕ) (text shown shown' rest : List ℕ) → ArePath p fs count shown → ArePassed p fs count text n rest → text ≡ shown' ++ rest → new ≡ fs → n' ≡ n
    → (n ≡ count → count < length fs → NoPiece (passing_piece p) (get_or fs n any_flags) rest) → IsFound p fs new text shown' rest n'
found_same p fs new count n n' text shown shown' rest path h e kept counted none =
    let few = h.few in
    let enough = path.enough in
    let is : (o : List Line) → Allows fs o → passing_by p o n ≡ shown' = λ o a. append_cancel_right (passing_by p o n) shown' rest (sym (h.passed o a) ∙ e) in
    let (o, allowed) = open_lines fs path.some in
    found_moved p fs fs new text shown' rest n n' (record {
      count = refl;
      enough = omega (arith, few, enough);
      some = path.some;
      same = λ m low. path.same m (omega (arith, few, low));
      text_is = e;
      are_passing = (last_flags o n, length-last_flags o n, sym (is o allowed));
      cut = λ o. (λ a. (a, is o a), λ a. a.0);
      no_more = λ low o z a f. elim (cases_lt n count) [
        | inl less ↦ h.no_more less o z a f
        | inr most ↦
            let same : n ≡ count = omega (arith, few, most) in
            none same (omega (arith, low, same)) (not (has_later o (suc n))) z (a n low) f
      ];
    }) kept counted

-- one piece more was found, that of the last item
pub found_more : (p : Pieces) (fs fs' : List Flags) (count : ℕ) (text shown shown' rest rest' : List ℕ) (new : Flags) → ArePath p fs count shown → ArePassed p fs count text count rest → count < length fs
    → IsCutTo (passing_piece p) (get_or fs count any_flags) rest new rest' → text ≡ shown' ++ rest' → fs' ≡ set fs count new → IsFound p fs fs' text shown' rest' (suc count)
found_more p fs fs' count text shown shown' rest rest' new path h low cut e set_is =
    let near = path.near in
    let size : length fs' ≡ length fs = ap length set_is ∙ length-set fs count new in
    let level : suc count ≡ length fs = omega (arith, near, low) in
    let here : get_or fs' count any_flags ≡ new = ap (λ z. get_or z count any_flags) set_is ∙ get_or-set_same fs count new any_flags low in
    let other : (m : ℕ) → m ≢ count → get_or fs' m any_flags ≡ get_or fs m any_flags = λ m ne. ap (λ z. get_or z m any_flags) set_is ∙ get_or-set_other fs count m new any_flags ne in
    let new_some : allows new new.last ≡ true = some_flag new cut.last ((cut.kept cut.last).1 (cut.allowed, refl)) in
    let piece : List ℕ = passing_piece p cut.last in
    let is : (o : List Line) → Allows fs o → shown' ≡ passing_by p o count ++ piece = λ o a.
    append_cancel_right shown' (passing_by p o count ++ piece) rest' (sym e ∙ (h.passed o a ∙ (ap (λ z. passing_by p o count ++ z) cut.text_is ∙ sym (append_assoc (passing_by p o count) piece rest')))) in
    let some : AreSome fs' = λ m l. elim (cases_eq m count) [
      | inl s ↦ ap (λ z. allows (get_or fs' z any_flags) (get_or fs' z any_flags).last) s ∙ (ap (λ z. allows z z.last) here ∙ new_some)
      | inr ne ↦ ap (λ z. allows z z.last) (other m ne) ∙ path.some m (omega (arith, l, size))
    ] in
    let cuts : (o : List Line) → Allows fs' o ↔ (Allows fs o × (passing_by p o (suc count) ≡ shown')) = λ o. (
      λ a.
          let kept : allows new (not (has_later o (suc count))) ≡ true = ap (λ z. allows z (not (has_later o (suc count)))) (sym here) ∙ a count (omega (arith, low, size)) in
          let both = (cut.kept (not (has_later o (suc count)))).0 kept in
          let old : Allows fs o = λ m l. elim (cases_eq m count) [
            | inl s ↦ ap (λ z. allows (get_or fs z any_flags) (not (has_later o (suc z)))) s ∙ both.0
            | inr ne ↦ ap (λ z. allows z (not (has_later o (suc m)))) (sym (other m ne)) ∙ a m (omega (arith, l, size))
          ] in
          (old, passing_push p o count ∙ (ap (λ z. passing_by p o count ++ z) both.1 ∙ sym (is o old))),
      λ both.
          let pieces : passing_piece p (not (has_later o (suc count))) ≡ piece =
          append_cancel_left (passing_by p o count) _ _ (sym (passing_push p o count) ∙ (both.1 ∙ is o both.0)) in
          let kept : allows new (not (has_later o (suc count))) ≡ true = (cut.kept (not (has_later o (suc count)))).1 (both.0 count low, pieces) in
          λ m l. elim (cases_eq m count) [
            | inl s ↦ ap (λ z. allows (get_or fs' z any_flags) (not (has_later o (suc z)))) s ∙ (ap (λ z. allows z (not (has_later o (suc count)))) here ∙ kept)
            | inr ne ↦ ap (λ z. allows z (not (has_later o (suc m)))) (other m ne) ∙ both.0 m (omega (arith, l, size))
          ],
    ) in
    let (o, allowed) = open_lines fs' some in
    let equal : new.regular ≡ true → new.last ≡ true → passing_piece p false ≡ passing_piece p true = λ r l. ((cut.kept false).0 r).1 ∙ sym ((cut.kept true).0 l).1 in
    record {
      count = size;
      enough = omega (arith, level);
      some = some;
      same = λ m l r t. elim (cases_eq m count) [
        | inl s ↦
            let flag : get_or fs' m any_flags ≡ new = ap (λ z. get_or fs' z any_flags) s ∙ here in
            equal (ap (λ (f : Flags). f.regular) (sym flag) ∙ r) (ap (λ (f : Flags). f.last) (sym flag) ∙ t)
        | inr ne ↦ path.same m (omega (arith, l, ne)) (ap (λ (f : Flags). f.regular) (sym (other m ne)) ∙ r) (ap (λ (f : Flags). f.last) (sym (other m ne)) ∙ t)
      ];
      text_is = e;
      are_passing = (last_flags o (suc count), length-last_flags o (suc count), sym ((cuts o).0 allowed).1);
      cut = cuts;
      no_more = λ l. absurd (omega (arith, l, level));
    }

-- one piece more after those that were passed
pub found_next : (p : Pieces) (fs fs' : List Flags) (count passed n : ℕ) (text shown shown' rest rest' : List ℕ) (flags new : Flags) → ArePath p fs count shown → ArePassed p fs count text passed rest → count ≤ passed → passed < length fs
    → IsCutTo (passing_piece p) flags rest new rest' → flags ≡ get_or fs passed any_flags → text ≡ shown' ++ rest' → fs' ≡ set fs passed new → n ≡ passed + 1 → IsFound p fs fs' text shown' rest' n
found_next p fs fs' count passed n text shown shown' rest rest' flags new path h most low cut is e set_is counted =
    let few = h.few in
    let same : passed ≡ count = omega (arith, few, most) in
    let next : suc count ≡ n = omega (arith, same, counted) in
    subst (λ z. IsFound p fs fs' text shown' rest' z) next
    (found_more p fs fs' count text shown shown' rest rest' new path (subst (λ z. ArePassed p fs count text z rest) same h) (omega (arith, same, low))
    (subst (λ z. IsCutTo (passing_piece p) z rest new rest') (is ∙ ap (λ z. get_or fs z any_flags) same) cut) e (set_is ∙ ap (λ z. set fs z new) same))

-- the bytes before the rest
pub found_prefix : (p : Pieces) (fs : List Flags) (count passed : ℕ) (text rest : List ℕ) → AreSome fs → ArePassed p fs count text passed rest → (prefix : List ℕ) × (text ≡ prefix ++ rest)
found_prefix p fs count passed text rest some h = let (o, a) = open_lines fs some in (passing_by p o passed, h.passed o a)

-- the bytes before the rest, with one piece more
pub found_prefix_next : (p : Pieces) (fs : List Flags) (count passed : ℕ) (text rest rest' : List ℕ) (flags new : Flags) → AreSome fs → ArePassed p fs count text passed rest → IsCutTo (passing_piece p) flags rest new rest'
    → (prefix : List ℕ) × (text ≡ prefix ++ rest')
found_prefix_next p fs count passed text rest rest' flags new some h cut =
    let (o, a) = open_lines fs some in
    let piece : List ℕ = passing_piece p cut.last in
    (passing_by p o passed ++ piece, h.passed o a ∙ (ap (λ z. passing_by p o passed ++ z) cut.text_is ∙ sym (append_assoc (passing_by p o passed) piece rest')))

-- A line that begins with some of the shown passing pieces.
use Rattle.std.proofs.Common.{◌≡◌, ℕ, zero, suc, ◌+◌, ◌-◌, ◌<◌, ◌≤◌, inl, inr, Bool, true, false, not, List, [], ◌∷◌, ◌++◌, length, length-append, take, drop, get_or, refl, sym, ap, ◌∙◌, subst, append_assoc, arith}
use Rattle.std.proofs.Math.Seq.{take-append_seam}
use Rattle.std.specs.Str.{IsUtf8, IsCharBoundary}
use Rattle.std.proofs.lemmas.Str.{IsUtf8-nil, IsUtf8-append, IsCharBoundary-from_take}
use Rattle.std.proofs.lemmas.Bool.{cases_lt}
use Rattle.std.proofs.lemmas.List.{append-nil, append_cancel_right, get_or_default, take-append-drop, take-take}
use Rattle.ptree.specs.declared.read.lines.Flags.{Flags}
use Rattle.ptree.specs.Flags.{has_later, last_flags, passing_by}
use Rattle.ptree.specs.Outline.{Line}
use Rattle.ptree.specs.Pieces.{Pieces, passing_piece, passing_all}
use Rattle.ptree.specs.Reached.{allows, any_flags, Allows, AreSome, ArePath, ArePassed}
use Rattle.ptree.proofs.Reading.OpenItems.{open_lines, passing_push, passing_split}

-- ## Some of the passing pieces

-- the first n passing pieces are that wide, and the next one reaches past what is common
pub record SkipSo (p : Pieces) (fs : List Flags) (count width n end : ℕ) : Type 0 where
  pub few : n ≤ count
  pub wide : (o : List Line) → Allows fs o → length (passing_by p o n) ≡ end
  pub past : n < count → (o : List Line) → Allows fs o → width < length (passing_by p o (suc n))

-- two texts have a longest common prefix of this width
pub record IsAlike (width : ℕ) (a b : List ℕ) : Type 0 where
  pub left : width ≤ length a
  pub right : width ≤ length b
  pub same : take width a ≡ take width b
  pub most : (m : ℕ) → m ≤ length a → m ≤ length b → take m a ≡ take m b → m ≤ width

-- texts have the common prefix that their bytes have, compared up to the length of the shorter one
pub common_prefix_of_texts : (a b x y : List ℕ) (width least : ℕ) → a ≡ x → b ≡ y → least ≤ length x → least ≤ length y → ((m : ℕ) → m ≤ length x → m ≤ length y → m ≤ least) → width ≤ least
    → take width a ≡ take width b → ((m : ℕ) → m ≤ least → take m a ≡ take m b → m ≤ width) → IsAlike width x y
common_prefix_of_texts a b x y width least left right left_least right_least greatest within same most = record {
  left = omega (arith, within, left_least);
  right = omega (arith, within, right_least);
  same = ap (take width) (sym left) ∙ (same ∙ ap (take width) right);
  most = λ m l r e. most m (greatest m l r) (ap (take m) left ∙ (e ∙ ap (take m) (sym right)));
}

-- a path that is too wide has a level
pub skip_some_left : (p : Pieces) (fs : List Flags) (count width n end : ℕ) → AreSome fs → SkipSo p fs count width n end → width < end → 0 < n
skip_some_left p fs count width zero end some h wide =
    let (o, a) = open_lines fs some in
    let none = h.wide o a in
    absurd (omega (arith, none, wide))
skip_some_left p fs count width (suc n) end some h wide = omega arith

-- the width of a level's piece
pub skip_width : (p : Pieces) (fs : List Flags) (count width n end : ℕ) (shown : List ℕ) (flags : Flags) → ArePath p fs count shown → SkipSo p fs count width (suc n) end → flags ≡ get_or fs n any_flags
    → (o : List Line) → Allows fs o → length (passing_by p o n) + length (passing_piece p flags.last) ≡ end
skip_width p fs count width n end shown flags path h is o a =
    let few = h.few in
    let enough = path.enough in
    let whole = h.wide o a in
    let b : Bool = not (has_later o (suc n)) in
    let same : passing_piece p b ≡ passing_piece p flags.last = at flags b (λ r l. path.same n (omega (arith, few)) (ap (λ (f : Flags). f.regular) (sym is) ∙ r) (ap (λ (f : Flags). f.last) (sym is) ∙ l))
    (ap (λ z. allows z b) is ∙ a n (omega (arith, few, enough))) in
    let parts = ap length (passing_push p o n) ∙ length-append (passing_by p o n) (passing_piece p b) in
    let size = ap length same in
    omega (arith, whole, parts, size)
  where
    at : (f : Flags) (b : Bool) → (f.regular ≡ true → f.last ≡ true → passing_piece p false ≡ passing_piece p true) → allows f b ≡ true → passing_piece p b ≡ passing_piece p f.last
    at f true e h = ap (passing_piece p) (sym h)
    at f false e h = which f.last refl where
      which : (l : Bool) → f.last ≡ l → passing_piece p false ≡ passing_piece p l
      which true l = e h l
      which false l = refl

-- one level less, by its piece
pub skip_next : (p : Pieces) (fs : List Flags) (count width n end end' : ℕ) (shown : List ℕ) (flags : Flags) → ArePath p fs count shown → SkipSo p fs count width (suc n) end → flags ≡ get_or fs n any_flags → width < end
    → end' + length (passing_piece p flags.last) ≡ end → SkipSo p fs count width n end'
skip_next p fs count width n end end' shown flags path h is wide less =
    let few = h.few in
    record {
      few = omega (arith, few);
      wide = λ o a. let w = skip_width p fs count width n end shown flags path h is o a in omega (arith, w, less);
      past = λ l o a. let w = h.wide o a in omega (arith, w, wide);
    }

-- a path that is no longer too wide is found
pub skip_end : (p : Pieces) (fs : List Flags) (count width n end : ℕ) (shown text rest : List ℕ) → ArePath p fs count shown → SkipSo p fs count width n end → end ≤ width → IsAlike width text shown
    → rest ≡ drop end text → ArePassed p fs count text n rest
skip_end p fs count width n end shown text rest path h low common rest_is = record {
  few = h.few;
  passed = passed;
  no_more = λ less o z a e.
      let next : List ℕ = passing_piece p (not (has_later o (suc n))) in
      let there : text ≡ passing_by p o (suc n) ++ z = passed o a ∙ (ap (λ y. passing_by p o n ++ y) e ∙ (sym (append_assoc (passing_by p o n) next z) ∙ ap (λ y. y ++ z) (sym (passing_push p o n)))) in
      let (t, is) = prefix o a (suc n) less in
      let m : ℕ = length (passing_by p o (suc n)) in
      let past = h.past less o a in
      let left : m ≤ length text = let l = ap length there ∙ length-append (passing_by p o (suc n)) z in omega (arith, l) in
      let right : m ≤ length shown = let l = ap length is ∙ length-append (passing_by p o (suc n)) t in omega (arith, l) in
      let both : take m text ≡ take m shown = ap (take m) there ∙ (take-append_seam (passing_by p o (suc n)) z ∙ (sym (take-append_seam (passing_by p o (suc n)) t) ∙ ap (take m) (sym is))) in
      let bound = common.most m left right both in
      omega (arith, past, bound);
} where
  prefix : (o : List Line) → Allows fs o → (m : ℕ) → m ≤ count → (t : List ℕ) × (shown ≡ passing_by p o m ++ t)
  prefix o a m l = elim (cases_lt m count) [
    | inl less ↦ let (t, is) = passing_split p o m count less in (passing_piece p (not (has_later o (suc m))) ++ t, sym (path.shown_is o a) ∙ is)
    | inr more ↦ let e : count ≡ m = omega arith in ([], sym (path.shown_is o a) ∙ (ap (passing_by p o) e ∙ sym (append-nil (passing_by p o m))))
  ]

  passed : (o : List Line) → Allows fs o → text ≡ passing_by p o n ++ rest
  passed o a =
      let (t, is) = prefix o a n h.few in
      let size = h.wide o a in
      let start : take end text ≡ passing_by p o n =
      sym (take-take end width text low) ∙ (ap (take end) common.same ∙ (take-take end width shown low ∙ (ap (λ z. take end z) is ∙ (ap (λ z. take z (passing_by p o n ++ t)) (sym size) ∙ take-append_seam (passing_by p o n) t)))) in
      sym (take-append-drop end text) ∙ (ap (λ z. z ++ drop end text) start ∙ ap (λ z. passing_by p o n ++ z) (sym rest_is))

-- one level less
pub skip_step : (p : Pieces) (fs : List Flags) (count width n end w : ℕ) (shown : List ℕ) (flags : Flags) → ArePath p fs count shown → SkipSo p fs count width n end → width < end → flags ≡ get_or fs (n - 1) flags
    → w ≡ length (passing_piece p flags.last) → (w ≤ end) × SkipSo p fs count width (n - 1) (end - w)
skip_step p fs count width zero end w shown flags path h wide is w_is = let left = skip_some_left p fs count width zero end path.some h wide in absurd (omega (arith, left))
skip_step p fs count width (suc n) end w shown flags path h wide is w_is =
    let less : suc n - 1 ≡ n = omega arith in
    let few = h.few in
    let enough = path.enough in
    let there : flags ≡ get_or fs n any_flags = is ∙ (ap (λ z. get_or fs z flags) less ∙ get_or_default fs n flags any_flags (omega (arith, few, enough))) in
    let (o, a) = open_lines fs path.some in
    let parts = skip_width p fs count width n end shown flags path h there o a in
    let low : w ≤ end = omega (arith, parts, w_is) in
    (low, subst (λ z. SkipSo p fs count width z (end - w)) (sym less) (skip_next p fs count width n end (end - w) shown flags path h there wide (omega (arith, low, w_is))))

-- passing pieces are UTF-8
pub passing_utf8 : (p : Pieces) → IsUtf8 (passing_piece p false) → IsUtf8 (passing_piece p true) → (flags : List Bool) → IsUtf8 (passing_all p flags)
passing_utf8 p r l [] = IsUtf8-nil
passing_utf8 p r l (true ∷ flags) = IsUtf8-append (passing_piece p true) (passing_all p flags) l (passing_utf8 p r l flags)
passing_utf8 p r l (false ∷ flags) = IsUtf8-append (passing_piece p false) (passing_all p flags) r (passing_utf8 p r l flags)

-- characters begin where the pieces end
pub skip_boundary : (p : Pieces) (fs : List Flags) (count width n end : ℕ) (shown text : List ℕ) → ArePath p fs count shown → SkipSo p fs count width n end → end ≤ width → IsAlike width text shown
    → IsUtf8 (passing_piece p false) → IsUtf8 (passing_piece p true) → IsUtf8 text → IsCharBoundary text end
skip_boundary p fs count width n end shown text path h low common r l whole =
    let passed = skip_end p fs count width n end shown text (drop end text) path h low common refl in
    let in_text = common.left in
    let (o, a) = open_lines fs path.some in
    let prefix : take end text ≡ passing_by p o n =
    append_cancel_right (take end text) (passing_by p o n) (drop end text) (take-append-drop end text ∙ passed.passed o a) in
    IsCharBoundary-from_take text end whole (omega (arith, low, in_text)) (subst IsUtf8 (sym prefix) (passing_utf8 p r l (last_flags o n)))

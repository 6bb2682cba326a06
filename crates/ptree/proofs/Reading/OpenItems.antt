-- The open items: their flags, and the passing pieces that these give.
use Rattle.std.proofs.Common.{◌≡◌, ℕ, zero, suc, ◌-◌, ◌<◌, ◌≤◌, inl, inr, Bool, true, false, not, List, [], ◌∷◌, ◌++◌, length, take, get_or, refl, sym, ap, ◌∙◌, append_assoc, arith}
use Rattle.std.proofs.Math.Bool.{not-not}
use Rattle.std.proofs.lemmas.Bool.{cases_lt, eq-eqb, ne_eqb, false≢true}
use Rattle.std.proofs.lemmas.List.{append-nil}
use Rattle.ptree.specs.declared.read.lines.Flags.{Flags}
use Rattle.ptree.specs.Flags.{has_later, last_flags, passing_by}
use Rattle.ptree.specs.Outline.{Line, line}
use Rattle.ptree.specs.Pieces.{Pieces, passing_piece, passing_all}
use Rattle.ptree.specs.Reached.{allows, any_flags, Allows, IsOpen, AreSome, CanClose}
use Rattle.ptree.proofs.Reading.LaterLines.{closings, closings_later}
use Rattle.ptree.proofs.Reading.Levels.{has_later_deeper, has_later_here, last_flags_same}
use Rattle.ptree.proofs.Reading.Paths.{passing_all-push}

-- ## Flags

-- there are lines that give each item one of its flags
pub open_lines : (fs : List Flags) → AreSome fs → IsOpen fs
open_lines fs h =
    let f : ℕ → Bool = λ m. not (get_or fs (m - 1) any_flags).last in (
      closings f (length fs),
      λ n low.
          let place : suc n - 1 ≡ n = omega arith in
          ap (λ z. allows (get_or fs n any_flags) (not z)) (closings_later f (length fs) (suc n) (omega arith) (omega arith))
          ∙ (ap (λ z. allows (get_or fs n any_flags) z) (not-not (get_or fs (suc n - 1) any_flags).last)
          ∙ (ap (λ z. allows (get_or fs n any_flags) (get_or fs z any_flags).last) place ∙ h n low)),
    )

-- an item with some flag may have the flag that the reader picks
pub some_flag : (f : Flags) (b : Bool) → allows f b ≡ true → allows f f.last ≡ true
some_flag f b h = at f.last refl b h where
  at : (last : Bool) → f.last ≡ last → (b : Bool) → allows f b ≡ true → allows f last ≡ true
  at true e b h = e
  at false e true h = absurd (false≢true (sym e ∙ h))
  at false e false h = h

-- an item with both flags may have either
pub allows_any : (b : Bool) → allows any_flags b ≡ true
allows_any true = refl
allows_any false = refl

-- ## Closing

-- the open items after some were closed from the end, each of them below the place
abbrev pub ClosedSo : ℕ → List Flags → List Flags → Type 0
ClosedSo place old items =
    (items ≡ take (length items) old) × (length items ≤ length old) × ((m : ℕ) → length items ≤ m → m < length old → (place < m) × ((get_or old m any_flags).last ≡ true))

-- what a line at the level needs to be able to close
pub can_close : (n : ℕ) (fs : List Flags) (o : List Line) → Allows fs (line (suc n) [] ∷ o) → CanClose n fs
can_close n fs o h = record {
  beside = λ low. ap (λ z. allows (get_or fs n any_flags) (not z)) (sym (has_later_here (line (suc n) []) o (suc n) (omega arith) ∙ eq-eqb (suc n) (suc n) refl)) ∙ h n low;
  below = λ m deep low. ap (λ z. allows (get_or fs m any_flags) (not z)) (sym (has_later_here (line (suc n) []) o (suc m) (omega arith) ∙ ne_eqb (suc m) (suc n) (omega arith))) ∙ h m low;
}

-- ## Passing pieces at the start of a line

-- passing pieces depend only on which levels have later items
pub passing_same : (p : Pieces) (a b : List Line) (n : ℕ) → ((m : ℕ) → m ≤ n → has_later a m ≡ has_later b m) → passing_by p a n ≡ passing_by p b n
passing_same p a b n h = ap (passing_all p) (last_flags_same a b n h)

-- a line at a deeper level does not affect the passing pieces
pub passing_deeper : (p : Pieces) (n : ℕ) (o : List Line) → passing_by p (line (suc n) [] ∷ o) n ≡ passing_by p o n
passing_deeper p n o = passing_same p (line (suc n) [] ∷ o) o n (λ m l. has_later_deeper (line (suc n) []) o m (omega arith))

-- the passing pieces of one level more
pub passing_push : (p : Pieces) (o : List Line) (n : ℕ) → passing_by p o (suc n) ≡ passing_by p o n ++ passing_piece p (not (has_later o (suc n)))
passing_push p o n = passing_all-push p (last_flags o n) (not (has_later o (suc n)))

-- the passing pieces of a level, the next piece, and the others
pub passing_split : (p : Pieces) (o : List Line) (n m : ℕ) → n < m → (t : List ℕ) × (passing_by p o m ≡ passing_by p o n ++ (passing_piece p (not (has_later o (suc n))) ++ t))
passing_split p o n zero l = absurd (omega arith)
passing_split p o n (suc m) l = elim (cases_lt n m) [
  | inl less ↦
      let (t, is) = passing_split p o n m less in (
        t ++ passing_piece p (not (has_later o (suc m))),
        passing_push p o m ∙ (ap (λ z. z ++ passing_piece p (not (has_later o (suc m)))) is
            ∙ regrouped (passing_by p o n) (passing_piece p (not (has_later o (suc n)))) t (passing_piece p (not (has_later o (suc m))))),
      )
  | inr more ↦
      let same : n ≡ m = omega arith in
      ([], passing_push p o m ∙ (ap (λ z. passing_by p o z ++ passing_piece p (not (has_later o (suc z)))) (sym same) ∙ ap (λ z. passing_by p o n ++ z) (sym (append-nil (passing_piece p (not (has_later o (suc n))))))))
] where
  regrouped : (a b t c : List ℕ) → (a ++ (b ++ t)) ++ c ≡ a ++ (b ++ (t ++ c))
  regrouped a b t c = simp append_assoc

-- the first m flags, the next one, and the others
pub cut_flags : (m : ℕ) (bs : List Bool) → m < length bs → (a : List Bool) × (b : Bool) × (c : List Bool) × (length a ≡ m) × (bs ≡ a ++ b ∷ c)
cut_flags m [] l = absurd (omega arith)
cut_flags zero (b ∷ bs) l = ([], b, bs, refl, refl)
cut_flags (suc m) (b ∷ bs) l = let (a, c, d, len, is) = cut_flags m bs (omega arith) in (b ∷ a, c, d, ap suc len, ap (λ z. b ∷ z) is)

-- the passing pieces of a list of flags, by parts
pub passing_parts : (p : Pieces) (a : List Bool) (b : Bool) (c : List Bool) → passing_all p (a ++ b ∷ c) ≡ passing_all p a ++ (passing_piece p b ++ passing_all p c)
passing_parts p [] b c = refl
passing_parts p (x ∷ a) b c = ap (λ z. passing_piece p x ++ z) (passing_parts p a b c) ∙ sym (append_assoc (passing_piece p x) (passing_all p a) (passing_piece p b ++ passing_all p c))

-- That no passing pieces are missing behind which an item could follow a line.
use Rattle.trees.proofs.Common.{◌≡◌, ◌≢◌, ℕ, suc, ◌<◌, ◌≤◌, inl, inr, Bool, List, [], ◌∷◌, ◌++◌, length, length-append, sym, ap, ◌∙◌, subst, append_assoc, Contains, arith, cases_lt, Contains-append_left, Contains-append_right, Contains-push, IsReadable, IsPrefixOf, passing_all-push}
use Rattle.ptree.specs.Pieces.{Pieces, turning_piece, passing_piece, passing_all}
use Rattle.ptree.proofs.Pieces.Prefixes.{apart_not_both_starts}
use Rattle.ptree.proofs.Reading.Markers.{passings_once}
use Rattle.ptree.proofs.Reading.OpenItems.{cut_flags, passing_parts}
use Rattle.trees.specs.Expected.{EndsBelow, HasFronts, AddsTexts}

-- no passing piece is at the start of a text
abbrev pub NonePasses : Pieces → List ℕ → Type 0
NonePasses p text = (last : Bool) (z : List ℕ) → text ≢ passing_piece p last ++ z

-- no turning piece is a passing one
turning_passes_none : (p : Pieces) → IsReadable p → (b : Bool) (z : List ℕ) → NonePasses p (turning_piece p b ++ z)
turning_passes_none p h b z last rest e = apart_not_both_starts (turning_piece p b) (passing_piece p last) z rest (h.turning_passing b last) e

-- of a line that begins with n passing pieces, those of fewer levels than m are tried
pub record HasTried (p : Pieces) (line : List ℕ) (n m : ℕ) (fronts : List (List ℕ)) (front rest : List ℕ) : Type 0 where
  pub above : List Bool
  pub count : length above ≡ n
  pub front_is : front ≡ passing_all p above
  pub line_is : line ≡ front ++ rest
  pub tried : (other : List Bool) → length other < m → IsPrefixOf (passing_all p other) line → Contains fronts (passing_all p other)

-- ## What a line begins with

-- the passing pieces, cut before one of them
cut_line : (p : Pieces) (line : List ℕ) (n m k : ℕ) (fronts : List (List ℕ)) (front rest : List ℕ) → HasTried p line n m fronts front rest → k < n
    → (a : List Bool) × (b : Bool) × (c : List Bool) × (length a ≡ k) × (line ≡ passing_all p a ++ (passing_all p (b ∷ c) ++ rest))
cut_line p line n m k fronts front rest h low =
    let (a, b, c, len, parts) = cut_flags k h.above (omega (arith, h.count)) in
    let front_is : front ≡ passing_all p a ++ passing_all p (b ∷ c) = h.front_is ∙ (ap (passing_all p) parts ∙ passing_parts p a b c) in
    (a, b, c, len, h.line_is ∙ (ap (λ z. z ++ rest) front_is ∙ append_assoc (passing_all p a) (passing_all p (b ∷ c)) rest))

-- the line begins with no more passing pieces, if none follows
none_deeper : (p : Pieces) → IsReadable p → (line : List ℕ) (n m : ℕ) (fronts : List (List ℕ)) (front rest : List ℕ) → HasTried p line n m fronts front rest → NonePasses p rest
    → (other : List Bool) (r : List ℕ) → line ≡ passing_all p other ++ r → length other ≤ n
none_deeper p readable line n m fronts front rest h none other r is = elim (cases_lt n (length other)) [
  | inl deep ↦
      let (a, b, c, len, parts) = cut_flags n other deep in
      let whole : passing_all p h.above ++ rest ≡ passing_all p a ++ (passing_all p (b ∷ c) ++ r) =
      sym (h.line_is ∙ ap (λ z. z ++ rest) h.front_is) ∙ (is ∙ (ap (λ z. z ++ r) (ap (passing_all p) parts ∙ passing_parts p a b c) ∙ append_assoc (passing_all p a) (passing_all p (b ∷ c)) r)) in
      let same = passings_once p readable h.above a rest (passing_all p (b ∷ c) ++ r) (h.count ∙ sym len) whole in
      absurd (none b (passing_all p c ++ r) (same.1 ∙ append_assoc (passing_piece p b) (passing_all p c) r))
  | inr few ↦ few
]

-- no turning piece is among them
none_turns : (p : Pieces) → IsReadable p → (line : List ℕ) (n m : ℕ) (fronts : List (List ℕ)) (front rest : List ℕ) → HasTried p line n m fronts front rest
    → (above : List Bool) (last : Bool) → IsPrefixOf (passing_all p above ++ turning_piece p last) line → n ≤ length above
none_turns p readable line n m fronts front rest h above last (z, is) = elim (cases_lt (length above) n) [
  | inl low ↦
      let (a, b, c, len, parts) = cut_line p line n m (length above) fronts front rest h low in
      let same = passings_once p readable above a (turning_piece p last ++ z) (passing_all p (b ∷ c) ++ rest) (sym len)
      (sym (append_assoc (passing_all p above) (turning_piece p last) z) ∙ (sym is ∙ parts)) in
      absurd (turning_passes_none p readable last z b (passing_all p c ++ rest) (same.1 ∙ append_assoc (passing_piece p b) (passing_all p c) rest))
  | inr enough ↦ enough
]

-- ## From level to level

-- those of the next level are tried
pub tried_more : (p : Pieces) → IsReadable p → (line : List ℕ) (n : ℕ) (fronts new : List (List ℕ)) (front rest : List ℕ) → new ≡ fronts ++ front ∷ [] → HasTried p line n n fronts front rest → HasTried p line n (suc n) new front rest
tried_more p readable line n fronts new front rest is h = record {
  above = h.above;
  count = h.count;
  front_is = h.front_is;
  line_is = h.line_is;
  tried = λ other low shown. subst (λ z. Contains z (passing_all p other)) (sym is) (elim (cases_lt (length other) n) [
    | inl less ↦ Contains-append_left fronts (front ∷ []) (passing_all p other) (h.tried other less shown)
    | inr most ↦
        let same = passings_once p readable other h.above shown.0 rest (omega (arith, low, most, h.count)) (sym shown.1 ∙ (h.line_is ∙ ap (λ z. z ++ rest) h.front_is)) in
        subst (Contains (fronts ++ front ∷ [])) (h.front_is ∙ sym same.0) (Contains-push fronts front)
  ]);
}

-- the line goes on with one more passing piece
pub tried_deeper : (p : Pieces) (line : List ℕ) (n : ℕ) (fronts : List (List ℕ)) (front rest longer left : List ℕ) (last : Bool) → longer ≡ front ++ passing_piece p last → rest ≡ passing_piece p last ++ left
    → HasTried p line n (suc n) fronts front rest → HasTried p line (suc n) (suc n) fronts longer left
tried_deeper p line n fronts front rest longer left last is goes h = record {
  above = h.above ++ last ∷ [];
  count = omega (arith, h.count, length-append h.above (last ∷ []));
  front_is = is ∙ (ap (λ z. z ++ passing_piece p last) h.front_is ∙ sym (passing_all-push p h.above last));
  line_is = h.line_is ∙ (ap (λ z. front ++ z) goes ∙ (sym (append_assoc front (passing_piece p last) left) ∙ ap (λ z. z ++ left) (sym is)));
  tried = h.tried;
}

-- ## At the end

-- an own line after the passing pieces
own_here : (p : Pieces) → IsReadable p → (line : List ℕ) (n m : ℕ) (fronts : List (List ℕ)) (front rest : List ℕ) → HasTried p line n m fronts front rest → NonePasses p rest
    → (above : List Bool) (last : Bool) → IsPrefixOf (passing_all p above ++ turning_piece p last) line → (length above ≡ n) × EndsBelow p front rest (passing_all p (above ++ last ∷ []))
own_here p readable line n m fronts front rest h none above last (z, is) =
    let few = none_deeper p readable line n m fronts front rest h none above (turning_piece p last ++ z) (is ∙ append_assoc (passing_all p above) (turning_piece p last) z) in
    let enough = none_turns p readable line n m fronts front rest h above last (z, is) in
    let level : length above ≡ n = omega (arith, few, enough) in
    let same = passings_once p readable above h.above (turning_piece p last ++ z) rest (level ∙ sym h.count)
    (sym (append_assoc (passing_all p above) (turning_piece p last) z) ∙ (sym is ∙ (h.line_is ∙ ap (λ y. y ++ rest) h.front_is))) in
    (level, (last, (z, sym same.1), passing_all-push p above last ∙ ap (λ y. y ++ passing_piece p last) (same.0 ∙ sym h.front_is)))

-- the line goes on with no passing piece, and those below its item are added
pub found_below : (p : Pieces) → IsReadable p → (line : List ℕ) (n : ℕ) (fronts new : List (List ℕ)) (front rest : List ℕ) → HasTried p line n (suc n) fronts front rest → NonePasses p rest
    → AddsTexts (EndsBelow p front rest) fronts new → HasFronts p line new
found_below p readable line n fronts new front rest h none (more, is, exact, apart) = record {
  beside = λ above low shown.
      let few = none_deeper p readable line n (suc n) fronts front rest h none above shown.0 shown.1 in
      subst (λ z. Contains z (passing_all p above)) (sym is) (Contains-append_left fronts more (passing_all p above) (h.tried above (omega (arith, few)) shown));
  below = λ above last low starts.
      let own = own_here p readable line n (suc n) fronts front rest h none above last starts in
      subst (λ z. Contains z (passing_all p (above ++ last ∷ []))) (sym is) (Contains-append_right fronts more (passing_all p (above ++ last ∷ [])) ((exact (passing_all p (above ++ last ∷ []))).1 own.1));
}

-- the line goes on with none, and those below would be too many
pub found_last : (p : Pieces) → IsReadable p → (line : List ℕ) (n : ℕ) (fronts : List (List ℕ)) (front rest : List ℕ) → HasTried p line n (suc n) fronts front rest → NonePasses p rest → 32 ≤ suc n → HasFronts p line fronts
found_last p readable line n fronts front rest h none deep = record {
  beside = λ above low shown.
      let few = none_deeper p readable line n (suc n) fronts front rest h none above shown.0 shown.1 in
      h.tried above (omega (arith, few)) shown;
  below = λ above last low starts.
      let own = own_here p readable line n (suc n) fronts front rest h none above last starts in
      absurd (omega (arith, low, deep, own.0));
}

-- the line begins with as many as are tried
pub found_all : (p : Pieces) → IsReadable p → (line : List ℕ) (n : ℕ) (fronts : List (List ℕ)) (front rest : List ℕ) → HasTried p line n n fronts front rest → 32 ≤ n → HasFronts p line fronts
found_all p readable line n fronts front rest h deep = record {
  beside = λ above low shown. h.tried above (omega (arith, low, deep)) shown;
  below = λ above last low starts.
      let enough = none_turns p readable line n n fronts front rest h above last starts in
      absurd (omega (arith, low, deep, enough));
}

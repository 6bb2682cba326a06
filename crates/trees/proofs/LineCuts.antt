-- Texts cut at their line feeds.
use Rattle.trees.proofs.Common.{◌≡◌, ◌≢◌, ℕ, ◌⊎◌, inl, inr, Option, Some, None, List, [], ◌∷◌, ◌++◌, take, drop, refl, sym, ap, ◌∙◌, subst, append_assoc, Bor, MatchOption, unwrap_or, All-push, RFindsChar, with_inserted, HasNoLineFeed}
use Rattle.std.proofs.lemmas.List.{append-nil, append_cancel_right}
use Rattle.ptree.proofs.Drawing.Inserted.{is_feed, inserted_feed, inserted_other}
use Rattle.ptree.proofs.Reading.LineEnds.{last_feed, no_feed}
use Rattle.ptree.proofs.Reading.OwnBytes.{holds_line_feed}
use Rattle.trees.specs.Expected.{IsLastLine}

-- of two line feeds of a text, one is before the other, or they are one
pub cut_either : (a b c d : List ℕ) → a ++ 10 ∷ b ≡ c ++ 10 ∷ d
    → ((z : List ℕ) × (c ≡ a ++ 10 ∷ z) × (b ≡ z ++ 10 ∷ d)) ⊎ (((a ≡ c) × (b ≡ d)) ⊎ ((z : List ℕ) × (a ≡ c ++ 10 ∷ z) × (d ≡ z ++ 10 ∷ b)))
cut_either [] b [] d e = let same : b ≡ d = cc in inr (inl (refl, same))
cut_either [] b (y ∷ c) d e =
    let heads : 10 ≡ y = cc in
    let tails : b ≡ c ++ 10 ∷ d = cc in
    inl (c, ap (λ z. z ∷ c) (sym heads), tails)
cut_either (x ∷ a) b [] d e =
    let heads : x ≡ 10 = cc in
    let tails : a ++ 10 ∷ b ≡ d = cc in
    inr (inr (a, ap (λ z. z ∷ a) heads, sym tails))
cut_either (x ∷ a) b (y ∷ c) d e =
    let heads : x ≡ y = cc in
    let tails : a ++ 10 ∷ b ≡ c ++ 10 ∷ d = cc in
    elim (cut_either a b c d tails) [
      | inl f ↦ inl (f.0, ap (λ z. z ∷ c) (sym heads) ∙ ap (λ z. x ∷ z) f.1, f.2)
      | inr g ↦ elim g [
        | inl f ↦ inr (inl (ap (λ z. z ∷ a) heads ∙ ap (λ z. y ∷ z) f.0, f.1))
        | inr f ↦ inr (inr (f.0, ap (λ z. z ∷ a) heads ∙ ap (λ z. y ∷ z) f.1, f.2))
      ]
    ]

-- what follows the last line feed is unique
pub last_once : (a b x y : List ℕ) → HasNoLineFeed x → HasNoLineFeed y → a ++ 10 ∷ x ≡ b ++ 10 ∷ y → x ≡ y
last_once a b x y h g e = elim (cut_either a x b y e) [
  | inl f ↦ absurd (holds_line_feed f.0 y (subst HasNoLineFeed f.2 h))
  | inr r ↦ elim r [
    | inl f ↦ f.1
    | inr f ↦ absurd (holds_line_feed f.0 x (subst HasNoLineFeed f.2 g))
  ]
]

-- ## Insertions

-- in a text with insertions, what follows a line feed begins with what is inserted
pub behind_feed : (cp u w a z : List ℕ) → HasNoLineFeed cp → HasNoLineFeed u → u ++ with_inserted cp w ≡ a ++ 10 ∷ z → (v : List ℕ) × (z ≡ cp ++ v)
behind_feed cp u [] a z h g e = absurd (holds_line_feed a z (subst HasNoLineFeed (sym (append-nil u) ∙ e) g))
behind_feed cp u (b ∷ w) a z h g e = elim (is_feed b) [
  | inl f ↦
      let there : u ++ 10 ∷ (cp ++ with_inserted cp w) ≡ a ++ 10 ∷ z = ap (λ y. u ++ y) (sym (inserted_feed cp b w f)) ∙ e in
      elim (cut_either u (cp ++ with_inserted cp w) a z there) [
        | inl c ↦ behind_feed cp cp w c.0 z h h c.2
        | inr r ↦ elim r [
          | inl c ↦ (with_inserted cp w, sym c.1)
          | inr c ↦ absurd (holds_line_feed a c.0 (subst HasNoLineFeed c.1 g))
        ]
      ]
  | inr n ↦
      behind_feed cp (u ++ b ∷ []) w a z h (All-push (λ c. c ≢ 10) u b g n)
      (append_assoc u (b ∷ []) (with_inserted cp w) ∙ (ap (λ y. u ++ y) (sym (inserted_other cp b w n)) ∙ e))
]

-- a text is one line, or its last line begins with what is inserted
abbrev pub EndsLine : List ℕ → List ℕ → List ℕ → List ℕ → Type 0
EndsLine cp u w text = (HasNoLineFeed text × (text ≡ u ++ w)) ⊎ ((a : List ℕ) × (v : List ℕ) × (text ≡ a ++ 10 ∷ (cp ++ v)) × HasNoLineFeed (cp ++ v))

-- so is a text with insertions behind a line
pub last_inserted : (cp u w : List ℕ) → HasNoLineFeed cp → HasNoLineFeed u → EndsLine cp u w (u ++ with_inserted cp w)
last_inserted cp u [] h g = inl (subst HasNoLineFeed (sym (append-nil u)) g, refl)
last_inserted cp u (b ∷ w) h g = elim (is_feed b) [
  | inl f ↦
      let is : u ++ with_inserted cp (b ∷ w) ≡ u ++ 10 ∷ (cp ++ with_inserted cp w) = ap (λ y. u ++ y) (inserted_feed cp b w f) in
      elim (last_inserted cp cp w h h) [
        | inl one ↦ inr (u, w, is ∙ ap (λ y. u ++ 10 ∷ y) one.1, subst HasNoLineFeed one.1 one.0)
        | inr l ↦ inr (u ++ 10 ∷ l.0, l.1, is ∙ (ap (λ y. u ++ 10 ∷ y) l.2 ∙ sym (append_assoc u (10 ∷ l.0) (10 ∷ (cp ++ l.1)))), l.3)
      ]
  | inr n ↦
      let is : (u ++ b ∷ []) ++ with_inserted cp w ≡ u ++ with_inserted cp (b ∷ w) =
      append_assoc u (b ∷ []) (with_inserted cp w) ∙ ap (λ y. u ++ y) (sym (inserted_other cp b w n)) in
      elim (last_inserted cp (u ++ b ∷ []) w h (All-push (λ c. c ≢ 10) u b g n)) [
        | inl one ↦ inl (subst HasNoLineFeed is one.0, sym is ∙ (one.1 ∙ append_assoc u (b ∷ []) w))
        | inr l ↦ inr (l.0, l.1, sym is ∙ l.2, l.3)
      ]
]

-- ## The last line

-- what is left of lines without their last line feed
pub stripped : (text : List ℕ) (r : Option (Bor (List ℕ))) (whole left : Bor (List ℕ)) → MatchOption r ((front : List ℕ) → text ≢ front ++ 10 ∷ []) (λ x. text ≡ x.now ++ 10 ∷ []) → left ≡ unwrap_or r whole
    → (front : List ℕ) → text ≡ front ++ 10 ∷ [] → left.now ≡ front
stripped text None whole left never is front e = absurd (never front e)
stripped text (Some x) whole left ends is front e = ap (λ (y : Bor (List ℕ)). y.now) is ∙ append_cancel_right x.now front (10 ∷ []) (sym ends ∙ e)

-- what is behind the last line feed is the last line
pub behind_last : (text line : List ℕ) (i j : ℕ) → RFindsChar 10 text (Some (i, j)) → line ≡ drop j text → IsLastLine text line
behind_last text line i j h is = let (cut, one) = last_feed text line i j h is in inr (take i text, cut, one)

-- one line has none
pub no_last : (text : List ℕ) → RFindsChar 10 text None → IsLastLine text []
no_last text h = inl (no_feed text h, refl)

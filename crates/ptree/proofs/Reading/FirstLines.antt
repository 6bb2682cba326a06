-- The first lines of a text.
use Rattle.std.proofs.Common.{◌≡◌, ◌≢◌, ℕ, zero, suc, ◌+◌, ◌-◌, ◌<◌, ◌≤◌, inl, inr, cond, List, [], ◌∷◌, ◌++◌, length, length-append, refl, sym, ap, ◌∙◌, subst, append_assoc, add-one, arith}
use Rattle.std.proofs.lemmas.Bool.{cases_lt, eq-eqb, ne_eqb}
use Rattle.std.proofs.lemmas.List.Elements.{All-head, All-tail}
use Rattle.std.specs.Prelude.{◌↔◌}
use Rattle.ptree.specs.Continuation.{HasContinuation, IsFirstWrongLine, first_lines, line_count}
use Rattle.ptree.specs.Drawing.{Look}
use Rattle.ptree.specs.Texts.{HasNoLineFeed}
use Rattle.ptree.proofs.Reading.Continuations.{goes_on_before}
use Rattle.ptree.proofs.Drawing.Inserted.{is_feed}

-- a line feed ends a line
first_feed : (n b : ℕ) (x : List ℕ) → b ≡ 10 → first_lines (suc n) (b ∷ x) ≡ b ∷ first_lines n x
first_feed n b x e = ap (λ c. b ∷ first_lines (cond c n (suc n)) x) (eq-eqb b 10 e)

-- any other byte does not
first_other : (n b : ℕ) (x : List ℕ) → b ≢ 10 → first_lines (suc n) (b ∷ x) ≡ b ∷ first_lines (suc n) x
first_other n b x e = ap (λ c. b ∷ first_lines (cond c n (suc n)) x) (ne_eqb b 10 e)

-- a line feed counts as a line
count_feed : (b : ℕ) (x : List ℕ) → b ≡ 10 → line_count (b ∷ x) ≡ 1 + line_count x
count_feed b x e = ap (λ c. cond c (1 + line_count x) (line_count x)) (eq-eqb b 10 e)

-- any other byte does not
pub count_other : (b : ℕ) (x : List ℕ) → b ≢ 10 → line_count (b ∷ x) ≡ line_count x
count_other b x e = ap (λ c. cond c (1 + line_count x) (line_count x)) (ne_eqb b 10 e)

-- a text without a line feed has no whole line
pub count_none : (x : List ℕ) → HasNoLineFeed x → line_count x ≡ 0
count_none [] h = refl
count_none (b ∷ x) h = count_other b x (All-head (λ c. c ≢ 10) b x h) ∙ count_none x (All-tail (λ c. c ≢ 10) b x h)

-- a line at the start adds one to the count
pub count_line : (line rest : List ℕ) → HasNoLineFeed line → line_count (line ++ 10 ∷ rest) ≡ 1 + line_count rest
count_line [] rest h = count_feed 10 rest refl
count_line (b ∷ line) rest h = count_other b (line ++ 10 ∷ rest) (All-head (λ c. c ≢ 10) b line h) ∙ count_line line rest (All-tail (λ c. c ≢ 10) b line h)

-- ## Behind the first lines

-- the first line of a text that begins with a line
first_line : (line rest : List ℕ) → HasNoLineFeed line → first_lines 1 (line ++ 10 ∷ rest) ≡ line ++ 10 ∷ []
first_line [] rest h = first_feed 0 10 rest refl
first_line (b ∷ line) rest h = first_other 0 b (line ++ 10 ∷ rest) (All-head (λ c. c ≢ 10) b line h) ∙ ap (λ z. b ∷ z) (first_line line rest (All-tail (λ c. c ≢ 10) b line h))

-- the same without the first byte
one_less : (b : ℕ) (x prefix rest : List ℕ) → b ∷ x ≡ (b ∷ prefix) ++ rest → x ≡ prefix ++ rest
one_less b x prefix rest e = cc

-- a text that begins with a line is not empty
not_nothing : (line behind rest : List ℕ) → rest ≡ line ++ 10 ∷ behind → [] ≡ rest → ⊥
not_nothing line behind rest e none = let long = ap length (none ∙ e) in omega (arith, simp length-append at long)

-- the first lines with one line more
pub first_next : (n : ℕ) (x rest line behind : List ℕ) → x ≡ first_lines n x ++ rest → rest ≡ line ++ 10 ∷ behind → HasNoLineFeed line → first_lines (suc n) x ≡ first_lines n x ++ line ++ 10 ∷ []
first_next zero x rest line behind e f h = ap (first_lines 1) (e ∙ f) ∙ first_line line behind h
first_next (suc n) [] rest line behind e f h = absurd (not_nothing line behind rest f e)
first_next (suc n) (b ∷ x) rest line behind e f h = elim (is_feed b) [
  | inl feed ↦
      let below = one_less b x (first_lines n x) rest (e ∙ ap (λ z. z ++ rest) (first_feed n b x feed)) in
      first_feed (suc n) b x feed ∙ (ap (λ z. b ∷ z) (first_next n x rest line behind below f h) ∙ ap (λ z. z ++ line ++ 10 ∷ []) (sym (first_feed n b x feed)))
  | inr other ↦
      let below = one_less b x (first_lines (suc n) x) rest (e ∙ ap (λ z. z ++ rest) (first_other n b x other)) in
      first_other (suc n) b x other ∙ (ap (λ z. b ∷ z) (first_next (suc n) x rest line behind below f h) ∙ ap (λ z. z ++ line ++ 10 ∷ []) (sym (first_other n b x other)))
]

-- the rest after one line more
pub first_more : (n : ℕ) (x rest line behind : List ℕ) → x ≡ first_lines n x ++ rest → rest ≡ line ++ 10 ∷ behind → HasNoLineFeed line → x ≡ first_lines (n + 1) x ++ behind
first_more n x rest line behind e f h =
    let next : first_lines (n + 1) x ≡ first_lines n x ++ line ++ 10 ∷ [] = ap (λ m. first_lines m x) (add-one n) ∙ first_next n x rest line behind e f h in
    e ∙ (ap (λ z. first_lines n x ++ z) f ∙ (regrouped (first_lines n x) ∙ ap (λ z. z ++ behind) (sym next)))
  where
    regrouped : (a : List ℕ) → a ++ (line ++ 10 ∷ behind) ≡ (a ++ line ++ 10 ∷ []) ++ behind
    regrouped a = simp append_assoc

-- fewer first lines are a prefix of more
first_begins : (m n : ℕ) (x : List ℕ) → m ≤ n → (rest : List ℕ) × (first_lines n x ≡ first_lines m x ++ rest)
first_begins zero n x l = (first_lines n x, refl)
first_begins (suc m) zero x l = absurd (omega arith)
first_begins (suc m) (suc n) [] l = ([], refl)
first_begins (suc m) (suc n) (b ∷ x) l = elim (is_feed b) [
  | inl feed ↦
      let (rest, is) = first_begins m n x (omega arith) in
      (rest, first_feed n b x feed ∙ (ap (λ z. b ∷ z) is ∙ ap (λ z. z ++ rest) (sym (first_feed m b x feed))))
  | inr other ↦
      let (rest, is) = first_begins (suc m) (suc n) x l in
      (rest, first_other n b x other ∙ (ap (λ z. b ∷ z) is ∙ ap (λ z. z ++ rest) (sym (first_other m b x other))))
]

-- if a drawing continues the first lines, it continues fewer of them
pub fewer_go_on : (k : Look) (depth m n : ℕ) (x : List ℕ) → m ≤ n → HasContinuation k depth (first_lines n x) → HasContinuation k depth (first_lines m x)
fewer_go_on k depth m n x l goes =
    let (rest, is) = first_begins m n x l in
    goes_on_before k depth (first_lines m x) rest (subst (HasContinuation k depth) is goes)

-- a drawing continues the first n lines exactly when n is less than the first wrong line
pub goes_on_before_wrong : (k : Look) (depth : ℕ) (x : List ℕ) (n : ℕ) → IsFirstWrongLine k depth x n → (m : ℕ) → HasContinuation k depth (first_lines m x) ↔ (m < n)
goes_on_before_wrong k depth x n h m = (
  λ goes. elim (cases_lt m n) [
    | inl less ↦ less
    | inr more ↦ absurd (h.wrong (fewer_go_on k depth n m x more goes))
  ],
  λ less. fewer_go_on k depth m (n - 1) x (omega arith) h.before,
)

-- what comes after the first lines
pub first_rest : (n : ℕ) (x : List ℕ) → (rest : List ℕ) × (x ≡ first_lines n x ++ rest)
first_rest zero x = (x, refl)
first_rest (suc n) [] = ([], refl)
first_rest (suc n) (b ∷ x) = elim (is_feed b) [
  | inl feed ↦ let (rest, is) = first_rest n x in (rest, ap (λ z. b ∷ z) is ∙ ap (λ z. z ++ rest) (sym (first_feed n b x feed)))
  | inr other ↦ let (rest, is) = first_rest (suc n) x in (rest, ap (λ z. b ∷ z) is ∙ ap (λ z. z ++ rest) (sym (first_other n b x other)))
]

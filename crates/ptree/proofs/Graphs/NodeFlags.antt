-- Which nodes are expanded by now, as flags by their numbers.
use Rattle.std.specs.Prelude.{slice_set, ◌↔◌, IsTrue, replicate}
use Rattle.std.proofs.Common.{◌≡◌, ℕ, zero, suc, ◌+◌, ◌-◌, ◌<◌, ◌≤◌, ◌⊎◌, inl, inr, Bool, true, false, List, [], ◌∷◌, ◌++◌, length, length-append, take, refl, sym, ◌∙◌, ap, append_assoc, arith}
use Rattle.std.proofs.lemmas.List.{take_all, length-replicate, replicate-append-replicate}
use Rattle.ptree.specs.Growing.{is_seen, all_flags}

-- the nodes that a list of flags has as expanded
abbrev pub IsSeen : List Bool → ℕ → Type 0
IsSeen seen w = IsTrue (is_seen seen w)

-- setting a flag adds its node, and no other
pub seen_set : (seen : List Bool) (v w : ℕ) → v < length seen → IsSeen (slice_set seen v true) w ↔ (IsSeen seen w ⊎ (v ≡ w))
seen_set [] v w h = absurd (omega arith)
seen_set (b ∷ bs) zero zero h = (λ _. inr refl, λ _. refl)
seen_set (b ∷ bs) zero (suc w) h = (λ x. inl x, λ y. elim y as (λ _. IsSeen bs w) [ inl x ↦ x | inr e ↦ absurd (omega (arith, e)) ])
seen_set (b ∷ bs) (suc v) zero h = (λ x. inl x, λ y. elim y as (λ _. b ≡ true) [ inl x ↦ x | inr e ↦ absurd (omega (arith, e)) ])
seen_set (b ∷ bs) (suc v) (suc w) h =
    let r = seen_set bs v w (omega arith) in (
      λ x. elim (r.0 x) as (λ _. IsSeen bs w ⊎ (suc v ≡ suc w)) [ inl y ↦ inl y | inr e ↦ inr (ap suc e) ],
      λ x. r.1 (elim x as (λ _. IsSeen bs w ⊎ (v ≡ w)) [ inl y ↦ inl y | inr e ↦ inr (omega (arith, e)) ]),
    )

-- and keeps the number of flags
pub length_set : (seen : List Bool) (v : ℕ) (b : Bool) → length (slice_set seen v b) ≡ length seen
length_set [] v b = refl
length_set (x ∷ xs) zero b = refl
length_set (x ∷ xs) (suc v) b = ap suc (length_set xs v b)

-- tests that say the same are equal
pub same_marks : (a b : Bool) → IsTrue a ↔ IsTrue b → a ≡ b
same_marks true true h = refl
same_marks true false h = sym (h.0 refl)
same_marks false true h = h.1 refl
same_marks false false h = refl

-- no node is
pub record AreClear (seen : List Bool) : Type 0 where
  pub clear : (w : ℕ) → is_seen seen w ≡ false

-- ## Flags that are left out at the end

-- flags that are left out are not set
pub seen_none : (k w : ℕ) → is_seen (replicate k false) w ≡ false
seen_none zero w = refl
seen_none (suc k) zero = refl
seen_none (suc k) (suc w) = seen_none k w

-- unset flags after a list do not change which nodes are seen
seen_start : (xs : List Bool) (k w : ℕ) → is_seen (xs ++ replicate k false) w ≡ is_seen xs w
seen_start [] k w = seen_none k w
seen_start (x ∷ xs) k zero = refl
seen_start (x ∷ xs) k (suc w) = seen_start xs k w

-- the flags of all nodes say the same as those without the unset ones at the end
pub seen_all : (n : ℕ) (seen : List Bool) (w : ℕ) → is_seen (all_flags n seen) w ≡ is_seen seen w
seen_all n seen w = seen_start seen (n - length seen) w

-- a flag that is read in a copy of the flags is that of the node
pub flag_read : (n : ℕ) (seen copy : List Bool) (v : ℕ) (read : Bool) → read ≡ is_seen copy v → copy ≡ seen → read ≡ is_seen (all_flags n seen) v
flag_read n seen copy v read is same = is ∙ (ap (λ s. is_seen s v) same ∙ sym (seen_all n seen v))

-- a flag that is set in the first of two lists leaves the second
set_start : (xs ys : List Bool) (v : ℕ) (b : Bool) → v < length xs → slice_set (xs ++ ys) v b ≡ slice_set xs v b ++ ys
set_start [] ys v b h = absurd (omega arith)
set_start (x ∷ xs) ys zero b h = refl
set_start (x ∷ xs) ys (suc v) b h = ap (λ l. x ∷ l) (set_start xs ys v b (omega arith))

-- a flag among those that are there
set_all : (n : ℕ) (seen last : List Bool) (v : ℕ) → v < length seen → last ≡ slice_set seen v true → all_flags n last ≡ slice_set (all_flags n seen) v true
set_all n seen last v h e =
    ap (all_flags n) e ∙ (ap (λ k. slice_set seen v true ++ replicate (n - k) false) (length_set seen v true) ∙ sym (set_start seen (replicate (n - length seen) false) v true h))

-- more flags that are not set
more_flags : (n k : ℕ) (seen more : List Bool) → more ≡ seen ++ replicate k false → length seen + k ≤ n → all_flags n more ≡ all_flags n seen
more_flags n k seen more e h =
    let long : length (seen ++ replicate k false) ≡ length seen + k = length-append seen (replicate k false) ∙ ap (λ m. length seen + m) (length-replicate k false) in
    let count : k + (n - length (seen ++ replicate k false)) ≡ n - length seen = omega arith in
    ap (all_flags n) e ∙ (append_assoc seen (replicate k false) _ ∙ (ap (λ z. seen ++ z) (replicate-append-replicate k (n - length (seen ++ replicate k false)) false) ∙ ap (λ m. seen ++ replicate m false) count))

-- a flag was set that was there
pub flag_set : (n : ℕ) (seen now last : List Bool) (v : ℕ) → v < length seen → length seen ≤ n → now ≡ seen → last ≡ slice_set now v true → (all_flags n last ≡ slice_set (all_flags n seen) v true) × (length last ≤ n)
flag_set n seen now last v h k e f =
    let same : last ≡ slice_set seen v true = f ∙ ap (λ l. slice_set l v true) e in
    (set_all n seen last v h same, omega (arith, ap length same, length_set seen v true))

-- one was set that had to be added
pub flag_added : (n : ℕ) (seen now last : List Bool) (v m : ℕ) → m ≡ length seen → m ≤ v → v < n → now ≡ take (v + 1) seen ++ replicate (v + 1 - m) false → last ≡ slice_set now v true
    → (all_flags n last ≡ slice_set (all_flags n seen) v true) × (length last ≤ n)
flag_added n seen now last v m l h k e f =
    let added : now ≡ seen ++ replicate (v + 1 - m) false = e ∙ ap (λ z. z ++ replicate (v + 1 - m) false) (take_all (v + 1) seen (omega arith)) in
    let long : length now ≡ length seen + (v + 1 - m) = ap length added ∙ (length-append seen (replicate (v + 1 - m) false) ∙ ap (λ j. length seen + j) (length-replicate (v + 1 - m) false)) in
    (set_all n now last v (omega arith) f ∙ ap (λ z. slice_set z v true) (more_flags n (v + 1 - m) seen now added (omega arith)), omega (arith, long, ap length f, length_set now v true))

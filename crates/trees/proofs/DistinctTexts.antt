-- Lists of different texts.
use Rattle.std.proofs.Common.{◌≡◌, ◌≢◌, ℕ, zero, suc, ◌<◌, List, [], ◌∷◌, ◌++◌, map, length, get_or, inl, inr, String, Global, string_bytes, refl, sym, ap, ◌∙◌, subst, append_assoc, ◌↔◌, ◌⊎◌, All, Contains, codes, arith}
use Rattle.std.proofs.lemmas.Grind.{flat_map-append}
use Rattle.std.proofs.lemmas.List.{append-nil, map-append}
use Rattle.std.proofs.lemmas.List.Elements.{All-nil, All-cons, All-head, All-tail, All-append, Contains-get_or, Contains-append_left, Contains-append_right, Contains-append_cases, Contains-push, Contains-push_cases}
use Rattle.trees.specs.Expected.{AreDistinct, listed_texts, AddsListed, AddsTexts}

-- those of two lists that have none in common
pub distinct_both : (xs ys : List (List ℕ)) → AreDistinct xs → AreDistinct ys → All (λ x. All (λ y. x ≢ y) ys) xs → AreDistinct (xs ++ ys)
distinct_both [] ys h k apart = k
distinct_both (x ∷ xs) ys h k apart =
    let Apart : List ℕ → Type 0 = λ z. All (λ y. z ≢ y) ys in
    (All-append (λ y. x ≢ y) xs ys h.0 (All-head Apart x xs apart), distinct_both xs ys h.1 k (All-tail Apart x xs apart))

-- two places have different texts
pub distinct_at : (xs : List (List ℕ)) (i j : ℕ) → AreDistinct xs → i < j → j < length xs → get_or xs i [] ≢ get_or xs j []
distinct_at (x ∷ xs) zero (suc j) h less low e = h.0 j [] (omega arith) e
distinct_at (x ∷ xs) (suc i) (suc j) h less low e = distinct_at xs i j h.1 (omega arith) (omega arith) e
distinct_at _ i _ h less low e = absurd (omega arith)

-- texts of two kinds that have none in common
all_apart : (P Q : List ℕ → Type 0) → ((x y : List ℕ) → P x → Q y → x ≢ y) → (xs ys : List (List ℕ)) → All P xs → All Q ys → All (λ x. All (λ y. x ≢ y) ys) xs
all_apart P Q apart xs ys h k = λ i d low. λ j e below. apart (get_or xs i d) (get_or ys j e) (h i d low) (k j e below)

-- what each text of a list is, each of those at its places is
pub all_contained : (P : List ℕ → Type 0) (xs : List (List ℕ)) → ((x : List ℕ) → Contains xs x → P x) → All P xs
all_contained P xs h = λ k d low. h (get_or xs k d) (Contains-get_or xs k d low)

-- no text is in the empty list
pub contains_none : (x : List ℕ) → Contains [] x → ⊥
contains_none x (k, low, is) = omega (arith, low)

-- a list of one text has no other
pub contains_one : (x text : List ℕ) → Contains (text ∷ []) x → x ≡ text
contains_one x text h = elim (Contains-push_cases [] text x h) [ inl none ↦ absurd (contains_none x none) | inr same ↦ sym same ]

-- exactly the texts of which P holds are in a list
abbrev pub IsListOf : (List ℕ → Type 0) → List (List ℕ) → Type 0
IsListOf P xs = (x : List ℕ) → Contains xs x ↔ P x

-- a list of one text
one_text : (P : List ℕ → Type 0) (text : List ℕ) → P text → ((x : List ℕ) → P x → x ≡ text) → IsListOf P (text ∷ [])
one_text P text holds only x = (λ there. subst P (sym (contains_one x text there)) holds, λ p. subst (Contains (text ∷ [])) (sym (only x p)) (Contains-push [] text))

-- exactly the texts of which P holds are in a list, each once
abbrev pub IsListOnce : (List ℕ → Type 0) → List (List ℕ) → Type 0
IsListOnce P xs = IsListOf P xs × AreDistinct xs

-- those of one of two kinds are in two lists
list_both : (P Q R : List ℕ → Type 0) → ((x : List ℕ) → P x → R x) → ((x : List ℕ) → Q x → R x) → ((x : List ℕ) → R x → P x ⊎ Q x) → (xs ys : List (List ℕ))
    → IsListOf P xs → IsListOf Q ys → IsListOf R (xs ++ ys)
list_both P Q R f g back xs ys h k x = (
  λ there. elim (Contains-append_cases xs ys x there) [ inl l ↦ f x ((h x).0 l) | inr r ↦ g x ((k x).0 r) ],
  λ holds. elim (back x holds) [ inl p ↦ Contains-append_left xs ys x ((h x).1 p) | inr q ↦ Contains-append_right xs ys x ((k x).1 q) ],
)

-- each once, if the two lists have none in common
list_both_once : (P Q R : List ℕ → Type 0) → ((x : List ℕ) → P x → R x) → ((x : List ℕ) → Q x → R x) → ((x : List ℕ) → R x → P x ⊎ Q x) → ((x y : List ℕ) → P x → Q y → x ≢ y) → (xs ys : List (List ℕ))
    → IsListOnce P xs → IsListOnce Q ys → IsListOnce R (xs ++ ys)
list_both_once P Q R f g back apart xs ys h k = (
  list_both P Q R f g back xs ys h.0 k.0,
  distinct_both xs ys h.1 k.1 (all_apart P Q apart xs ys (all_contained P xs (λ x there. (h.0 x).0 there)) (all_contained Q ys (λ x there. (k.0 x).0 there))),
)

-- ## Lists

-- nothing is added
pub adds_none : (Is : List ℕ → Type 0) (a : List ℕ) → ((x : List ℕ) → Is x → ⊥) → AddsListed Is a a
adds_none Is a never = ([], sym (append-nil a), λ x. (λ there. absurd (contains_none x there), λ holds. absurd (never x holds)), tt)

-- a text is added
pub adds_one : (Is : List ℕ → Type 0) (a b text : List ℕ) → b ≡ a ++ (codes "\n  " ++ text) → Is text → ((x : List ℕ) → Is x → x ≡ text) → AddsListed Is a b
adds_one Is a b text is holds only = (
  text ∷ [],
  is ∙ ap (λ z. a ++ z) (sym (append-nil (codes "\n  " ++ text))),
  one_text Is text holds only,
  (All-nil (λ y. text ≢ y), tt),
)

-- the same is said otherwise
pub adds_same : (P Q : List ℕ → Type 0) (a b : List ℕ) → ((x : List ℕ) → P x → Q x) → ((x : List ℕ) → Q x → P x) → AddsListed P a b → AddsListed Q a b
adds_same P Q a b f g h = (h.0, h.1, λ x. (λ there. f x ((h.2 x).0 there), λ q. (h.2 x).1 (g x q)), h.3)

-- texts of two kinds that have none in common are added
pub adds_both : (P Q R : List ℕ → Type 0) → ((x : List ℕ) → P x → R x) → ((x : List ℕ) → Q x → R x) → ((x : List ℕ) → R x → P x ⊎ Q x) → ((x y : List ℕ) → P x → Q y → x ≢ y)
    → (a b c : List ℕ) → AddsListed P a b → AddsListed Q b c → AddsListed R a c
adds_both P Q R f g back apart a b c (xs, first, p, d) (ys, second, q, e) =
    let once = list_both_once P Q R f g back apart xs ys (p, d) (q, e) in (
      xs ++ ys,
      second ∙ (ap (λ z. z ++ listed_texts ys) first ∙ (append_assoc a (listed_texts xs) (listed_texts ys) ∙ ap (λ z. a ++ z) (sym (flat_map-append (λ text. codes "\n  " ++ text) xs ys)))),
      once.0,
      once.1,
    )

-- ## Texts

-- nothing is added
pub texts_none : (Is : List ℕ → Type 0) (a : List (List ℕ)) → ((x : List ℕ) → Is x → ⊥) → AddsTexts Is a a
texts_none Is a never = ([], sym (append-nil a), λ x. (λ there. absurd (contains_none x there), λ holds. absurd (never x holds)), tt)

-- a text is added
pub texts_one : (Is : List ℕ → Type 0) (a b : List (List ℕ)) (text : List ℕ) → b ≡ a ++ text ∷ [] → Is text → ((x : List ℕ) → Is x → x ≡ text) → AddsTexts Is a b
texts_one Is a b text is holds only = (text ∷ [], is, one_text Is text holds only, (All-nil (λ y. text ≢ y), tt))

-- two different texts are added
pub texts_two : (Is : List ℕ → Type 0) (a b c : List (List ℕ)) (x y : List ℕ) → b ≡ a ++ x ∷ [] → c ≡ b ++ y ∷ [] → x ≢ y → Is x → Is y → ((z : List ℕ) → Is z → (z ≡ x) ⊎ (z ≡ y)) → AddsTexts Is a c
texts_two Is a b c x y first second apart p q only = (
  x ∷ y ∷ [],
  second ∙ (ap (λ z. z ++ y ∷ []) first ∙ append_assoc a (x ∷ []) (y ∷ [])),
  list_both (λ z. z ≡ x) (λ z. z ≡ y) Is (λ z e. subst Is (sym e) p) (λ z e. subst Is (sym e) q) only (x ∷ []) (y ∷ []) (one_text (λ z. z ≡ x) x refl (λ z e. e)) (one_text (λ z. z ≡ y) y refl (λ z e. e)),
  (All-cons (λ z. x ≢ z) y [] apart (All-nil (λ z. x ≢ z)), (All-nil (λ z. y ≢ z), tt)),
)

-- texts of two kinds that have none in common are added
pub texts_both : (P Q R : List ℕ → Type 0) → ((x : List ℕ) → P x → R x) → ((x : List ℕ) → Q x → R x) → ((x : List ℕ) → R x → P x ⊎ Q x) → ((x y : List ℕ) → P x → Q y → x ≢ y)
    → (a b c : List (List ℕ)) → AddsTexts P a b → AddsTexts Q b c → AddsTexts R a c
texts_both P Q R f g back apart a b c (xs, first, p, d) (ys, second, q, e) =
    let once = list_both_once P Q R f g back apart xs ys (p, d) (q, e) in
    (xs ++ ys, second ∙ (ap (λ z. z ++ ys) first ∙ append_assoc a xs ys), once.0, once.1)

-- a text behind others
pub bytes_push : (a b : List (String Global)) (s : String Global) (text : List ℕ) → b ≡ a ++ s ∷ [] → string_bytes s ≡ text → map string_bytes b ≡ map string_bytes a ++ text ∷ []
bytes_push a b s text is same = ap (map string_bytes) is ∙ (map-append string_bytes a (s ∷ []) ∙ ap (λ t. map string_bytes a ++ t ∷ []) same)

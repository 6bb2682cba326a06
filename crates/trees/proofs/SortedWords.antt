-- Words in ascending order.
use Rattle.trees.proofs.Common.{◌≡◌, ◌≢◌, ◌∙◌, ℕ, ◌+◌, ◌<◌, Bool, false, List, [], ◌∷◌, length, get_or, map, inl, inr, refl, sym, ap, subst, Bor, Contains, flat_map, option_map, bytes_eq, Ordering, Less, Equal, Greater, arith, cases_lt, length-map, Contains-permutation, IsPermutation-sym, searchable_from_sorted, bytes_eq-Decides, Contains-map}
use Rattle.std.proofs.Math.ListN.{get_or-map}
use Rattle.std.proofs.lemmas.Cmp.{nat_list_cmp_total, tied_itself}
use Rattle.std.proofs.lemmas.List.Filters.{dedup_is}
use Rattle.std.proofs.lemmas.List.Kept.{Any-dedup, Contains-from_dedup, IsStrictlySortedBy-dedup}
use Rattle.std.proofs.lemmas.List.Sums.{position_or_len_is}
use Rattle.std.proofs.lemmas.Map.Keys.{Less-from_sorted, sorted_from_all_adjacent}
use Rattle.std.proofs.lemmas.Map.Lookups.{exact_bytes}
use Rattle.std.proofs.lemmas.Map.Text.{is_eq-slice_cmp}
use Rattle.std.proofs.lemmas.Option.{get_or_from_slice_get, slice_get_cases, slice_get-map}
use Rattle.std.specs.Cmp.Lexicographic.{slice_cmp, on_texts, on_texts_equal, texts_ties}
use Rattle.std.specs.List.{HoldsAt, dedup}
use Rattle.std.specs.List.Retain.{IsFiltered, DiffersFromLast}
use Rattle.std.specs.List.Sorted.{IsPermutation, IsSorted, IsStrictlySortedBy, IsPartitionPoint, IsNonDecreasingBy}
use Rattle.std.specs.Ordering.{is_eq, is_lt, nat_cmp, ordering_index, ordering_reverse}
use Rattle.trees.specs.Depending.{pair_words, number, AreNames}
use Rattle.trees.specs.DependingParts.{texts_of}

-- ## Elements of mapped lists

pub from_mapped : {X Y : Type 0} (f : X → Y) (xs : List X) (y : Y) → Contains (map f xs) y → (x : X) × Contains xs x × (f x ≡ y)
from_mapped f xs y c = elim (slice_get_cases xs c.0).1 [
  | inl here ↦ (here.0, (c.0, here.1, here.3), sym (get_or_from_slice_get (map f xs) c.0 (f here.0) y (slice_get-map f xs c.0 ∙ ap (option_map f) here.2)) ∙ c.2)
  | inr past ↦ absurd (omega (arith, c.1, past.0, length-map xs f))
]

-- ## Texts

-- a text that is borrowed
abbrev Text : Type 0
Text = Bor (List ℕ)

abbrev pub own : Text → List ℕ
own x = x.now

-- two of them in order, and equal
abbrev pub text_cmp : Text → Text → Ordering
text_cmp x y = slice_cmp nat_cmp x.now y.now

abbrev pub text_eq : Text → Text → Bool
text_eq x y = bytes_eq x.now y.now

-- texts that ascend
ascending : (names : List Text) → IsStrictlySortedBy text_cmp names → IsStrictlySortedBy (slice_cmp nat_cmp) (map own names)
ascending names up =
    sorted_from_all_adjacent nat_list_cmp_total (map own names) [] (λ k low.
    let within : k + 1 < length names = omega (arith, length-map names own) in
    ap (λ (x : List ℕ). slice_cmp nat_cmp x (get_or (map own names) (k + 1) [])) (get_or-map own names k (record { ref_ptr = (0, 0); now = [] }))
    ∙ (ap (λ (y : List ℕ). slice_cmp nat_cmp (get_or names k (record { ref_ptr = (0, 0); now = [] })).now y) (get_or-map own names (k + 1) (record { ref_ptr = (0, 0); now = [] }))
    ∙ Less-from_sorted text_cmp names k (k + 1) (record { ref_ptr = (0, 0); now = [] }) up (omega arith) within))

-- the words of pairs
pub words_of_pairs : (ps : List (Text × Text)) → map own (flat_map (λ p. p.0 ∷ p.1 ∷ []) ps) ≡ flat_map pair_words (map texts_of ps)
words_of_pairs [] = refl
words_of_pairs (p ∷ ps) = ap (λ ws. p.0.now ∷ p.1.now ∷ ws) (words_of_pairs ps)

-- sorted, each once
pub names_are : (ps : List (Text × Text)) (found sorted names : List Text) → found ≡ flat_map (λ p. p.0 ∷ p.1 ∷ []) ps → IsPermutation found sorted → IsSorted text_cmp sorted → IsFiltered (DiffersFromLast text_eq) [] sorted names
    → AreNames (map texts_of ps) (map own names)
names_are ps found sorted names words moved up once =
    let is : names ≡ dedup text_eq sorted = dedup_is text_eq sorted names once in
    let all : map own found ≡ flat_map pair_words (map texts_of ps) = ap (map own) words ∙ words_of_pairs ps in
    record {
      ascending = ascending names (subst (IsStrictlySortedBy text_cmp) (sym is) (IsStrictlySortedBy-dedup (on_texts own) (λ x y. texts_ties x.now y.now) sorted up));
      words = λ w. (
        (λ in'.
            let y = from_mapped own names w in' in
            let sort : Contains sorted y.0 = Contains-from_dedup text_eq sorted y.0 (subst (λ ns. Contains ns y.0) is y.1) in
            subst (λ ws. Contains ws w) all (subst (Contains (map own found)) y.2 (Contains-map own found y.0 (Contains-permutation sorted found y.0 (IsPermutation-sym found sorted moved) sort)))),
        (λ in'.
            let x = from_mapped own found w (subst (λ ws. Contains ws w) (sym all) in') in
            let y = Any-dedup (on_texts_equal own) sorted x.0 (Contains-permutation found sorted x.0 moved x.1) in
            let same : x.0.now ≡ y.1.now = (bytes_eq-Decides x.0.now y.1.now).0 y.4 in
            let kept : Contains names y.1 = subst (λ ns. Contains ns y.1) (sym is) (y.0, y.2, y.3) in
            subst (Contains (map own names)) (sym same ∙ x.2) (Contains-map own names y.1 kept)),
      );
    }

-- ## Numbers

equal_self : (w : List ℕ) → slice_cmp nat_cmp w w ≢ Less
equal_self w less = (let no : Less ≡ Equal = sym less ∙ tied_itself nat_list_cmp_total w in cc)

-- a word that is below another is not that
below_other : (w x : List ℕ) → slice_cmp nat_cmp x w ≡ Less → bytes_eq w x ≡ false
below_other w x less = sym (is_eq-slice_cmp w x) ∙ ap is_eq (nat_list_cmp_total.antisymm w x ∙ ap ordering_reverse less)

-- a word that a search finds is there first
pub number_found : (names : List Text) (w : List ℕ) (i : ℕ) → IsStrictlySortedBy (slice_cmp nat_cmp) (map own names) → i < length names → HoldsAt (λ y. slice_cmp nat_cmp y.now w ≡ Equal) names i → i ≡ number (map own names) w
number_found names w i up low here =
    let is : get_or (map own names) i [] ≡ w = get_or-map own names i (record { ref_ptr = (0, 0); now = [] }) ∙ exact_bytes _ w (here (record { ref_ptr = (0, 0); now = [] })) in
    let within : i < length (map own names) = rw length-map low in
    sym (position_or_len_is (bytes_eq w) (map own names) i [] (omega arith)
    (λ k less. below_other w (get_or (map own names) k []) (subst (λ (x : List ℕ). slice_cmp nat_cmp (get_or (map own names) k []) x ≡ Less) is (Less-from_sorted (slice_cmp nat_cmp) (map own names) k i [] up less within)))
    (λ _. (bytes_eq-Decides w (get_or (map own names) i [])).1 (sym is)))

-- of two neighbours the later is not below the earlier
not_below : (x y : List ℕ) → slice_cmp nat_cmp x y ≡ Less → is_lt (slice_cmp nat_cmp y x) ≡ false
not_below x y less = ap is_lt (nat_list_cmp_total.antisymm y x ∙ ap ordering_reverse less)

rises : (names : List Text) (w : List ℕ) → IsStrictlySortedBy (slice_cmp nat_cmp) (map own names) → IsNonDecreasingBy (λ (y : Text). ordering_index (slice_cmp nat_cmp y.now w)) names
rises names w up =
    searchable_from_sorted nat_list_cmp_total own names w (λ k d _ low.
    let less = Less-from_sorted (slice_cmp nat_cmp) (map own names) k (k + 1) d.now up (omega arith) (rw length-map low) in
    not_below (get_or names k d).now (get_or names (k + 1) d).now
    (ap (λ (x : List ℕ). slice_cmp nat_cmp x (get_or names (k + 1) d).now) (sym (get_or-map own names k d))
    ∙ (ap (λ (y : List ℕ). slice_cmp nat_cmp (get_or (map own names) k d.now) y) (sym (get_or-map own names (k + 1) d)) ∙ less)))

-- one that is there is found, in texts that do not fall
pub missed : (names : List Text) (w : List ℕ) (i : ℕ) → IsNonDecreasingBy (λ (y : Text). ordering_index (slice_cmp nat_cmp y.now w)) names → Contains (map own names) w → (IsNonDecreasingBy (λ (y : Text). ordering_index (slice_cmp nat_cmp y.now w)) names
    → IsPartitionPoint (λ (y : Text). slice_cmp nat_cmp y.now w ≡ Less) (λ (y : Text). slice_cmp nat_cmp y.now w ≡ Greater) names i) → ⊥
missed names w i up known parts =
    let y = from_mapped own names w known in
    let c = y.1 in
    let point = parts up in
    let same : (get_or names c.0 y.0).now ≡ w = ap own c.2 ∙ y.2 in
    let self : (o : Ordering) → slice_cmp nat_cmp (get_or names c.0 y.0).now w ≡ o → slice_cmp nat_cmp w w ≡ o = λ o e. ap (λ (x : List ℕ). slice_cmp nat_cmp x w) (sym same) ∙ e in
    elim (cases_lt c.0 i) [
      | inl lt ↦ equal_self w (self Less (point.0 c.0 y.0 (omega arith) lt))
      | inr ge ↦ equal_self w (nat_list_cmp_total.antisymm w w ∙ ap ordering_reverse (self Greater (point.1 c.0 y.0 ge c.1)))
    ]

pub none_missed : (names : List Text) (w : List ℕ) (i : ℕ) → IsStrictlySortedBy (slice_cmp nat_cmp) (map own names) → Contains (map own names) w → (IsNonDecreasingBy (λ (y : Text). ordering_index (slice_cmp nat_cmp y.now w)) names
    → IsPartitionPoint (λ (y : Text). slice_cmp nat_cmp y.now w ≡ Less) (λ (y : Text). slice_cmp nat_cmp y.now w ≡ Greater) names i) → ⊥
none_missed names w i up = missed names w i (rises names w up)

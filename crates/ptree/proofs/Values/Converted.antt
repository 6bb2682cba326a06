-- Values of a document, of either format, and the values that they are converted to.
use Rattle.std.proofs.Common.{◌≡◌, ◌∙◌, ap, sym, subst, nat_cmp, Less, Global, String, List, [], ◌∷◌, ◌++◌, append_assoc, eqb, length, map, string_bytes}
use Rattle.std.specs.Cmp.Lexicographic.{slice_cmp}
use Rattle.std.specs.List.{AllByRecursion}
use Rattle.std.specs.List.Sorted.{IsStrictlySortedBy}
use Rattle.std.specs.Map.{keys_of}
use Rattle.std.specs.String.{string_cmp}
use Rattle.std.proofs.lemmas.List.{append-nil, map-append, length-map}
use Rattle.ptree.specs.Data.{Data, Items, no_items, item, Entries, no_entries, entry, string, key_texts, item_pairs, entry_pair, entry_pairs, Pair}
use Rattle.ptree.specs.Value.{items_from, entries_from}

-- a key and its value
abbrev pub Member : Type 0 → Type 0
Member V = String Global × V

-- the entry of a member, given the data of values
abbrev pub member_data : {V : Type 0} → (V → Data) → Member V → Data × Data
member_data meant m = (string (string_bytes m.0), meant m.1)

-- some of all members are left, and of the others something was made
abbrev pub AreMade : {A B : Type 0} → (A → B) → (all left : List A) → List B → Type 0
AreMade f all left made = (done : List _) × ((all ≡ done ++ left) × (made ≡ map f done))

-- something was made of one member more
pub made_more : {A B : Type 0} (f : A → B) (all left rest : List A) (x : A) (made more : List B) (y : B)
    → AreMade f all left made → left ≡ x ∷ rest → y ≡ f x → more ≡ made ++ y ∷ [] → AreMade f all rest more
made_more f all left rest x made more y h steps is e = (
  h.0 ++ x ∷ [],
  (
    h.1.0 ∙ ap (λ xs. h.0 ++ xs) steps ∙ sym (append_assoc h.0 (x ∷ []) rest),
    e ∙ ap (λ z. made ++ z ∷ []) is ∙ ap (λ ys. ys ++ f x ∷ []) h.1.1 ∙ sym (map-append f h.0 (x ∷ [])),
  ),
)

-- none are left, so all were made
pub all_made : {A B : Type 0} (f : A → B) (all left : List A) (made : List B) → AreMade f all left made → left ≡ [] → made ≡ map f all
all_made f all left made h none = h.1.1 ∙ ap (map f) (sym (h.1.0 ∙ ap (λ xs. h.0 ++ xs) none ∙ append-nil h.0))

-- the data of a list, value by value
pub items_made : {V : Type 0} (meant : V → Data) (items : List V → Items) → items [] ≡ no_items → ((v : V) (vs : List V) → items (v ∷ vs) ≡ item (meant v) (items vs))
    → (vs : List V) → items_from (map meant vs) ≡ items vs
items_made meant items none more [] = sym none
items_made meant items none more (v ∷ vs) = ap (item (meant v)) (items_made meant items none more vs) ∙ sym (more v vs)

-- the data of members, one by one
pub entries_made : {V : Type 0} (meant : V → Data) (entries : List (Member V) → Entries) → entries [] ≡ no_entries
    → ((m : Member V) (ms : List (Member V)) → entries (m ∷ ms) ≡ entry (string (string_bytes m.0)) (meant m.1) (entries ms))
    → (ms : List (Member V)) → entries_from (map (member_data meant) ms) ≡ entries ms
entries_made meant entries none more [] = sym none
entries_made meant entries none more (m ∷ ms) = ap (entry (string (string_bytes m.0)) (meant m.1)) (entries_made meant entries none more ms) ∙ sym (more m ms)

-- a key below all keys of members is below those of the entries that they denote
key_below : {V : Type 0} (meant : V → Data) (k : String Global) (ms : List (Member V)) → AllByRecursion (λ l. string_cmp k l ≡ Less) (keys_of ms)
    → AllByRecursion (λ l. slice_cmp nat_cmp (string_bytes k) l ≡ Less) (key_texts (entries_from (map (member_data meant) ms)))
key_below meant k [] h = tt
key_below meant k (m ∷ ms) h = (h.0, key_below meant k ms h.1)

-- the keys of members ascend
keys_ascend : {V : Type 0} (meant : V → Data) (ms : List (Member V)) → IsStrictlySortedBy string_cmp (keys_of ms)
    → IsStrictlySortedBy (slice_cmp nat_cmp) (key_texts (entries_from (map (member_data meant) ms)))
unfolding IsStrictlySortedBy
keys_ascend meant [] h = tt
keys_ascend meant (m ∷ ms) h = (key_below meant m.0 ms h.0, keys_ascend meant ms h.1)

-- the keys of members ascend, as entries
pub entries_ascend : {V : Type 0} (meant : V → Data) (entries : List (Member V) → Entries) → entries [] ≡ no_entries
    → ((m : Member V) (ms : List (Member V)) → entries (m ∷ ms) ≡ entry (string (string_bytes m.0)) (meant m.1) (entries ms))
    → (ms : List (Member V)) → IsStrictlySortedBy string_cmp (keys_of ms) → IsStrictlySortedBy (slice_cmp nat_cmp) (key_texts (entries ms))
entries_ascend meant entries none more ms h = subst (λ es. IsStrictlySortedBy (slice_cmp nat_cmp) (key_texts es)) (entries_made meant entries none more ms) (keys_ascend meant ms h)

-- the pairs of a list, value by value
pub item_pairs_made : {V : Type 0} (meant : V → Data) (items : List V → Items) → items [] ≡ no_items → ((v : V) (vs : List V) → items (v ∷ vs) ≡ item (meant v) (items vs))
    → (vs : List V) → item_pairs (items vs) ≡ map (λ v. ([], meant v)) vs
item_pairs_made meant items none more [] = ap item_pairs none
item_pairs_made meant items none more (v ∷ vs) = ap item_pairs (more v vs) ∙ ap (λ ps. ([], meant v) ∷ ps) (item_pairs_made meant items none more vs)

-- the pair of a member, given the data of values
abbrev pub member_pair : {V : Type 0} → (V → Data) → Member V → Pair
member_pair meant m = entry_pair (string (string_bytes m.0)) (meant m.1)

-- the pairs of members, one by one
pub entry_pairs_made : {V : Type 0} (meant : V → Data) (entries : List (Member V) → Entries) → entries [] ≡ no_entries
    → ((m : Member V) (ms : List (Member V)) → entries (m ∷ ms) ≡ entry (string (string_bytes m.0)) (meant m.1) (entries ms))
    → (ms : List (Member V)) → entry_pairs (entries ms) ≡ map (member_pair meant) ms
entry_pairs_made meant entries none more [] = ap entry_pairs none
entry_pairs_made meant entries none more (m ∷ ms) = ap entry_pairs (more m ms) ∙ ap (λ ps. member_pair meant m ∷ ps) (entry_pairs_made meant entries none more ms)

-- a list that is mapped has as many as the one that it is mapped from
pub as_many : {A B : Type 0} (f : A → B) (xs : List A) (ys : List B) → ys ≡ map f xs → eqb (length xs) 0 ≡ eqb (length ys) 0
as_many f xs ys h = ap (λ n. eqb n 0) (sym (ap length h ∙ length-map xs f))
